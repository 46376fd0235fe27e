-- `sign_by_drives` meets its contract. The loop's invariant: the register holds the state after the slices before the index, for every
-- response whose drives these are.
use Rattle.std.proofs.Common.{List, ℕ}
use Rattle.rows.specs.Lists.{cells_of}
use Rattle.rows.specs.declared.Rows.{Rows}
use Rattle.drives.specs.Drives.{Drives}
use Rattle.slice_signing.proofs.RunLaws.{Running}
use Rattle.slice_signing.proofs.sign_by_drives.Given as goal

abbrev pub invariant-loop-drive : goal.invariant-loop-drive
invariant-loop-drive live =
    (ws l : List ℕ) (rows : Rows) → Drives ws l rows live.s live.drives → Running live.initial.held.m live.initial.held.taps live.initial.held.inversion ws (cells_of l rows) live.held.m live.held.taps live.held.inversion live.held.state live.drive-index
