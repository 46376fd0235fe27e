-- Rows of cells. Document 01, "Files": "A row is B bytes, n ÷ 8 rounded up; chain c is bit c mod 8 of byte c ÷ 8, and
-- spare bits are 0."
--
--   Cells           the cells of one slice: chain c's is 0 or 1
--   row_bytes n      document 01: B, the bytes of a row of n chains
--   cell row c      the cell of chain c in a row
--   spare_set n row  a spare bit of a row of n chains is set
use Rattle.std.specs.Prelude.{Bool, List, ℕ, ◌+◌, ◌-◌, ◌*◌, ◌/◌, ◌%◌, get_or, eqb}
use Rattle.word.specs.Word.{digit}
use Rattle.word.specs.Some.{any_below}

abbrev pub Cells : Type 0
Cells = ℕ → ℕ

abbrev pub row_bytes : ℕ → ℕ
row_bytes n = (n + 7) / 8

abbrev pub cell : List ℕ → Cells
cell row c = digit (c % 8) (get_or row (c / 8) 0)

unfoldable pub spare_set : ℕ → List ℕ → Bool
spare_set n row = any_below (8 * row_bytes n - n) (λ k. eqb (cell row (n + k)) 1)
