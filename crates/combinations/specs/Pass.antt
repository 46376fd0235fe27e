-- The test for a reduced list as one pass over its words. That it says what document 01's sentence says is a theorem
-- (proofs/Theorems.antt, reduced_exactly).
--
--   follows m last seen w   w is above the word last, has no bit at or above m and none of the bits seen
--   with_top seen w          the bits seen, with w's highest bit
--   one_pass m last seen ws  each word of ws follows the one before it, where seen holds the highest bits so far
use Rattle.std.specs.Prelude.{Bool, true, not, ◌&&◌, List, [], ◌∷◌, ℕ, ◌^◌, eqb, ltb}
use Rattle.std.specs.Int.Bits.{bit_and, bit_or}
use Rattle.word.specs.Word.{beyond, highest_bit}

unfoldable pub follows : ℕ → ℕ → ℕ → ℕ → Bool
follows m last seen w = ltb last w && (not (beyond m w) && eqb (bit_and seen w) 0)

unfoldable pub with_top : ℕ → ℕ → ℕ
with_top seen w = bit_or seen (2 ^ highest_bit w)

unfoldable pub one_pass : ℕ → ℕ → ℕ → List ℕ → Bool
one_pass m last seen [] = true
one_pass m last seen (w ∷ ws) = follows m last seen w && one_pass m w (with_top seen w) ws
