-- The last row with a marked cell.
--
--   last_marked l r t   of the first t of the rows r in the list l: how many there are up to the last that marks one of its first 256 cells; 0
--                      where none does
--   last_count l r t    how many of its first 256 cells that row marks; 0 where there is none
use Rattle.std.specs.Prelude.{cond, List, ℕ, zero, suc, eqb}
use Rattle.rows.specs.Lists.{cells_of}
use Rattle.rows.specs.Marks.{total}
use Rattle.rows.specs.declared.Rows.{Rows}

unfoldable pub last_marked : List ℕ → Rows → ℕ → ℕ
last_marked l r zero = 0
last_marked l r (suc t) = cond (eqb (total 256 (cells_of l r t)) 0) (last_marked l r t) (suc t)

unfoldable pub last_count : List ℕ → Rows → ℕ → ℕ
last_count l r zero = 0
last_count l r (suc t) = cond (eqb (total 256 (cells_of l r t)) 0) (last_count l r t) (total 256 (cells_of l r t))
