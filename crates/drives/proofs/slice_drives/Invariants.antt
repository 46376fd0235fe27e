-- `slice_drives` meets its contract. The loop's invariant: each drive has what the chains of the words passed drive in its slice, 64 to a turn.
use mathlib.Core.Path.{◌≡◌}
use lib.ListN.{length}
use Rattle.drives.proofs.DriveLaws.{Driving}
use Rattle.drives.proofs.slice_drives.Given as goal

abbrev pub invariant-loop-g : goal.invariant-loop-g
invariant-loop-g l =
    (length l.drives ≡ 512) × (length l.table ≡ 2048) × Driving l.list l.rows l.spread l.count (length l.yielded) l.drives
