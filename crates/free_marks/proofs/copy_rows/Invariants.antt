-- `copy_rows` meets its contract. The loop's invariant: the first `t` rows stand in the list, and zeros behind them.
use mathlib.Core.Path.{◌≡◌}
use Prim.Native.Nat.{◌≤◌}
use lib.ListN.{length}
use Rattle.rows.specs.Row.{row_bytes}
use Rattle.rows.specs.Lists.{row_of}
use Rattle.free_marks.proofs.CopyLaws.{Copied}
use Rattle.free_marks.proofs.copy_rows.Given as goal

abbrev pub invariant-loop-t : goal.invariant-loop-t
invariant-loop-t l =
    (length l.copy ≡ 16384)
    × (l.n ≤ 256 → l.s ≤ 512 → l.marks.bytes ≡ row_bytes l.n → Copied (row_bytes l.n) (row_of l.list l.marks) l.copy l.t)
