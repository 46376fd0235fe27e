use native.Mathlib.Omega.{arith}
use Rattle.drives.proofs.DriveLaws.{added_starts, added_turns, added_ends, looked_of_whole}
use Rattle.drives.proofs.add_of_whole.Goals as goal

pub loop-t-init : goal.loop-t-init
loop-t-init c = added_starts _ _

pub loop-t-preserved : goal.loop-t-preserved
loop-t-preserved c =
    let args = c.args in
    let at = c.loop-t in
    added_turns _ _ at.drives at.t _ (omega arith) at.invariant
    (looked_of_whole args.table.now args.list.now _ _ _ c.eight_bytes-marks.ensures c.looked_up.ensures)

pub returns : goal.returns
returns c = added_ends _ _ _ _ _ (omega arith) c.loop-t.invariant
