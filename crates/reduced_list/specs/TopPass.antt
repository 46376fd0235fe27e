-- The test for a reduced list as one pass that keeps the highest bits alone. That it says what document 01's sentence says is a theorem
-- (proofs/TopLaws.antt, tops_exactly).
--
--   next_above seen w    the word w is above the bits seen, as a number, and has none of them
--   top_pass m seen ws   each word of ws is that, where seen holds the highest bits so far, and in the end these are below m
use Rattle.std.specs.Prelude.{Bool, not, ◌&&◌, List, [], ◌∷◌, ℕ, eqb, ltb}
use Rattle.std.specs.Int.Bits.{bit_and}
use Rattle.word.specs.Word.{beyond}
use Rattle.combinations.specs.Pass.{with_top}

unfoldable pub next_above : ℕ → ℕ → Bool
next_above seen w = ltb seen w && eqb (bit_and seen w) 0

unfoldable pub top_pass : ℕ → ℕ → List ℕ → Bool
top_pass m seen [] = not (beyond m seen)
top_pass m seen (w ∷ ws) = next_above seen w && top_pass m (with_top seen w) ws
