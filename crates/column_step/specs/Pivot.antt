-- Where the pivot of a step stands.
--
--   first_odd c ws   the place of the first word that is odd with the column c; the length where none is
use Rattle.std.specs.Prelude.{List, [], ◌∷◌, ℕ, suc}
use Rattle.word.specs.Word.{parity}
use Rattle.combinations.specs.Step.{by_parity}

unfoldable pub first_odd : ℕ → List ℕ → ℕ
first_odd c [] = 0
first_odd c (w ∷ ws) = by_parity (parity w c) (suc (first_odd c ws)) 0
