-- `unmark` meets its contract. The loop's invariant: the cells of the first `i` entries whose flag is 0 are cleared, and the others are as
-- they were copied.
use mathlib.Core.Path.{◌≡◌}
use mathlib.Core.Bool.{cond, ◌&&◌}
use Prim.Native.Nat.{ℕ}
use lib.Dec.{eqb}
use lib.ListN.{length, get_or}
use Rattle.word.specs.Some.{any_below}
use Rattle.rows.specs.Row.{cell}
use Rattle.rows.specs.Lists.{list_row}
use Rattle.ties.specs.Ties.{ties_in}
use Rattle.ties.specs.Symbols.{names}
use Rattle.free_marks.proofs.unmark.Given as goal

abbrev pub invariant-loop-i : goal.invariant-loop-i
invariant-loop-i l =
    (length l.copy ≡ 16384)
    × ((t c : ℕ) → cell (list_row l.n l.copy t) c ≡ cond (any_below l.i (λ h. names (ties_in l.ties l.count) h t c && eqb (get_or l.flags h 0) 0)) 0 (cell (list_row l.n l.initial.copy t) c))
