-- The reduced X-free list. Document 01: "go through bits 0 to m − 1; a bit whose row over the columns is the XOR of earlier
-- independent rows gives one word, that bit with those rows' bits." And: "Any list of non-zero words without a bit at or
-- above m, ascending, each word's highest bit clear in every other, is a reduced list for m."
--
--   row cs i            document 01: the row of bit i over the columns cs
--   xor_rows r t         the XOR of two rows
--   made cs js r        the word of those of the bits js whose rows XOR to the row r, if there are such
--   independent cs i    the bits below i whose rows are no XOR of earlier independent rows
--   words_below cs i     the words that the bits below i give
--   reduced_list m cs    document 01: the reduced list
--   is_reduced m ws      document 01: ws is a reduced list for m
use Rattle.std.specs.Prelude.{Bool, true, cond, not, ◌&&◌, List, [], ◌∷◌, ◌++◌, map, ℕ, zero, suc, ◌+◌, ◌%◌, ◌^◌, eqb, ltb}
use Rattle.std.proofs.Math.Option.{Option, none, some}
use Rattle.std.specs.Int.Bits.{bit_xor}
use Rattle.word.specs.Word.{digit, beyond, highest_bit}
use Rattle.word.specs.Some.{all_of}

abbrev pub row : List ℕ → ℕ → List ℕ
row cs i = map (digit i) cs

unfoldable pub xor_rows : List ℕ → List ℕ → List ℕ
xor_rows [] t = []
xor_rows (d ∷ r) [] = []
xor_rows (d ∷ r) (e ∷ t) = (d + e) % 2 ∷ xor_rows r t

-- the word w with bit j, where there is a word
abbrev pub with_bit : ℕ → Option ℕ → Option ℕ
with_bit j none = none
with_bit j (some w) = some (bit_xor (2 ^ j) w)

abbrev pub or_else : Option ℕ → Option ℕ → Option ℕ
or_else none b = b
or_else (some w) b = some w

-- without the first bit, or with it
unfoldable pub made : List ℕ → List ℕ → List ℕ → Option ℕ
made cs [] r = cond (all_of (λ d. eqb d 0) r) (some 0) none
made cs (j ∷ js) r = or_else (made cs js r) (with_bit j (made cs js (xor_rows (row cs j) r)))

-- a bit i whose row no independent rows make is independent
abbrev pub kept_bit : Option ℕ → List ℕ → ℕ → List ℕ
kept_bit none js i = js ++ i ∷ []
kept_bit (some w) js i = js

unfoldable pub independent : List ℕ → ℕ → List ℕ
independent cs zero = []
independent cs (suc i) = kept_bit (made cs (independent cs i) (row cs i)) (independent cs i) i

-- any other gives one word, that bit with those rows' bits
abbrev pub kept_word : Option ℕ → List ℕ → ℕ → List ℕ
kept_word none ws i = ws
kept_word (some w) ws i = ws ++ bit_xor (2 ^ i) w ∷ []

unfoldable pub words_below : List ℕ → ℕ → List ℕ
words_below cs zero = []
words_below cs (suc i) = kept_word (made cs (independent cs i) (row cs i)) (words_below cs i) i

unfoldable pub reduced_list : ℕ → List ℕ → List ℕ
reduced_list m cs = words_below cs m

-- ---- any reduced list

abbrev pub below_head : ℕ → List ℕ → Bool
below_head w [] = true
below_head w (v ∷ vs) = ltb w v

unfoldable pub ascending : List ℕ → Bool
ascending [] = true
ascending (w ∷ ws) = below_head w ws && ascending ws

-- w's highest bit is clear in v
abbrev pub top_clear : ℕ → ℕ → Bool
top_clear w v = eqb (digit (highest_bit w) v) 0

-- each word's highest bit is clear in every other
unfoldable pub tops_clear : List ℕ → Bool
tops_clear [] = true
tops_clear (w ∷ ws) = all_of (λ v. top_clear w v && top_clear v w) ws && tops_clear ws

unfoldable pub is_reduced : ℕ → List ℕ → Bool
is_reduced m ws = all_of (λ w. not (eqb w 0) && not (beyond m w)) ws && (ascending ws && tops_clear ws)
