-- Lists of rows. Document 01, "Files": "s slices, each a value row and a row of unknown marks"; "Record: s value rows and nothing
-- else".
--
--   list_row n l t       row t of a list l of rows of n chains, one after the other
--   row_of l r t         row t of the rows r that stand in the list l
--   cells_of l r t c     the cell of chain c in that row
--   shares_bit v k       at some place a byte of v and a byte of k have a bit in common
--   spare_in n f s       document 01, 9 and 13: one of the rows f 0 to f (s - 1) of n chains has a spare bit set
--   valued_unknown n v k s   document 01, 10: of the slices 0 to s - 1 with value rows v and rows of unknown marks k one has an
--                       unknown cell with its value bit set
use Rattle.std.specs.Prelude.{Bool, not, ◌&&◌, List, ℕ, ◌+◌, ◌*◌, min, eqb, length, get_or, take, drop}
use Rattle.std.specs.Int.Bits.{bit_and}
use Rattle.word.specs.Some.{any_below}
use Rattle.rows.specs.Row.{Cells, cell, row_bytes, spare_set}
use Rattle.rows.specs.declared.Rows.{Rows}

unfoldable pub list_row : ℕ → List ℕ → ℕ → List ℕ
list_row n l t = take (row_bytes n) (drop (row_bytes n * t) l)

abbrev pub row_of : List ℕ → Rows → ℕ → List ℕ
row_of l r t = take r.bytes (drop (r.at + r.stride * t) l)

abbrev pub cells_of : List ℕ → Rows → ℕ → Cells
cells_of l r t = cell (row_of l r t)

unfoldable pub shares_bit : List ℕ → List ℕ → Bool
shares_bit v k = any_below (min (length v) (length k)) (λ i. not (eqb (bit_and (get_or v i 0) (get_or k i 0)) 0))

abbrev pub spare_in : ℕ → (ℕ → List ℕ) → ℕ → Bool
spare_in n f s = any_below s (λ t. spare_set n (f t))

abbrev pub valued_unknown : ℕ → (ℕ → List ℕ) → (ℕ → List ℕ) → ℕ → Bool
valued_unknown n v k s = any_below s (λ t. any_below n (λ c. eqb (cell (v t) c) 1 && eqb (cell (k t) c) 1))
