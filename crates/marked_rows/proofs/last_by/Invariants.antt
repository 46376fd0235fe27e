-- `last_by` meets its contract: what is sought is among the rows that are left, of whichever rows `count_of` counts the marks.
use mathlib.Core.Path.{◌≡◌}
use mathlib.Core.List.{List}
use Prim.Native.Nat.{ℕ, ◌<◌}
use Rattle.rows.specs.Lists.{cells_of}
use Rattle.rows.specs.Marks.{total}
use Rattle.rows.specs.declared.Rows.{Rows}
use Rattle.marked_rows.proofs.LastLaws.{Seeking}
use Rattle.marked_rows.proofs.last_by.Given as goal

abbrev pub invariant-loop-row : goal.invariant-loop-row
invariant-loop-row g l =
    (list : List ℕ) (r : Rows) → ((row n : ℕ) → row < l.t → goal.F-post g l.count_of row n → n ≡ total 256 (cells_of list r row)) → Seeking list r l.t l.row
