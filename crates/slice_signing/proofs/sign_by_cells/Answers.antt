use mathlib.Core.Path.{refl}
use native.Mathlib.Omega.{arith}
use Rattle.slice_signing.proofs.RunLaws.{running_starts, running_turns, running_ends, row_driven}
use Rattle.slice_signing.proofs.sign_by_cells.Goals as goal

pub loop-t-init : goal.loop-t-init
loop-t-init c = running_starts _ _ _ _ _ _ c.requires

pub loop-t-preserved : goal.loop-t-preserved
loop-t-preserved c =
    let args = c.args in
    let row = c.row_of in
    running_turns _ _ _ _ _ _ _ _ _ _ _ _ _ _ _ c.loop-t.invariant c.clock_row-held.ensures
    (row_driven args.spread.now args.list.now row.result.now args.rows _ _ row.ensures refl)

pub returns : goal.returns
returns c = running_ends _ _ _ _ _ _ _ _ _ _ _ c.loop-t.invariant (omega arith)
