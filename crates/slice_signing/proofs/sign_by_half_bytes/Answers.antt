use native.Mathlib.Omega.{arith}
use Rattle.slice_signing.proofs.RunLaws.{running_starts, running_turns, running_ends, row_looked}
use Rattle.slice_signing.proofs.sign_by_half_bytes.Goals as goal

pub loop-t-init : goal.loop-t-init
loop-t-init c = running_starts _ _ _ _ _ _ c.requires.0

pub loop-t-preserved : goal.loop-t-preserved
loop-t-preserved c =
    let args = c.args in
    let row = c.row_of in
    running_turns _ _ _ _ _ _ _ _ _ _ _ _ _ _ _ c.loop-t.invariant c.clock_driven-held.ensures
    (row_looked args.spread.now c.half_bytes-table.result args.list.now row.result.now args.rows _ _ c.requires.1 c.half_bytes-table.ensures (λ i. (c.type_inv.list i).fits) row.ensures c.looked_up.ensures)

pub returns : goal.returns
returns c = running_ends _ _ _ _ _ _ _ _ _ _ _ c.loop-t.invariant (omega arith)
