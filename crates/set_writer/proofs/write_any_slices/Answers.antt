use native.Mathlib.Omega.{arith}
use Rattle.set_writer.proofs.WriteLaws.{slices_start, slices_all, slice_written, row_lent, row_inside}
use Rattle.set_writer.proofs.write_any_slices.Goals as goal

pub loop-t-init : goal.loop-t-init
loop-t-init c = slices_start _ _ _ _ _

pub loop-t-preserved : goal.loop-t-preserved
loop-t-preserved c =
    let args = c.args in
    let b = c.row_bytes-bytes in
    slice_written args.n b.result args.values.now args.marks.now _ _ _ _ _ c.loop-t.t _ _ b.ensures
    (row_inside _ _ args.s _ _ b.ensures c.requires.0 (omega arith)) (row_inside _ _ args.s _ _ b.ensures c.requires.1 (omega arith))
    (row_lent args.n b.result args.values.now c.loop-t.t b.ensures) (row_lent args.n b.result args.marks.now c.loop-t.t b.ensures)
    c.loop-t.invariant c.write_bytes.ensures c.write_bytes-in-loop-t.ensures

pub returns : goal.returns
returns c = slices_all _ _ _ _ _ _ _ _ c.loop-t.invariant (omega arith) c.rows_at-start.ensures
