-- Combinations of signature bits, and columns. Document 01: "A combination (a set of signature bits, written as a word) is
-- X-free if it shares an even number of bits with every column."
--
--   x_free cs w      document 01: the combination w is X-free for the columns cs
--   member y s      y stands in the list s
--   grown s c       the list s of all XORs of some columns, after the column c: unchanged where c is in it already
--   rank cs         document 01: the count of columns independent of earlier ones
--   only_empty m cs  document 01, 17: no X-free combination but the empty one exists
use Rattle.std.specs.Prelude.{Bool, true, cond, not, ◌&&◌, List, [], ◌∷◌, ◌++◌, map, ℕ, ◌+◌, ◌^◌, eqb}
use Rattle.std.specs.Int.Bits.{bit_xor}
use Rattle.word.specs.Word.{parity}
use Rattle.word.specs.Some.{any_below, any_of}

unfoldable pub x_free : List ℕ → ℕ → Bool
x_free [] w = true
x_free (c ∷ cs) w = eqb (parity w c) 0 && x_free cs w

abbrev pub member : ℕ → List ℕ → Bool
member y s = any_of (eqb y) s

unfoldable pub grown : List ℕ → ℕ → List ℕ
grown s c = cond (member c s) s (s ++ map (bit_xor c) s)

-- how many columns of cs are no XOR of earlier ones, where s lists the XORs of those before cs
unfoldable pub rank_after : List ℕ → List ℕ → ℕ
rank_after s [] = 0
rank_after s (c ∷ cs) = cond (member c s) 0 1 + rank_after (grown s c) cs

unfoldable pub rank : List ℕ → ℕ
rank cs = rank_after (0 ∷ []) cs

unfoldable pub only_empty : ℕ → List ℕ → Bool
only_empty m cs = not (any_below (2 ^ m) (λ w. not (eqb w 0) && x_free cs w))
