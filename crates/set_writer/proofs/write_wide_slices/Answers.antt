use native.Mathlib.Omega.{arith}
use Rattle.set_writer.proofs.WriteLaws.{slices_start, slices_all, wide_room, wide_written}
use Rattle.set_writer.proofs.write_wide_slices.Goals as goal

pub loop-t-init : goal.loop-t-init
loop-t-init c = slices_start _ _ _ _ _

pub loop-t-preserved : goal.loop-t-preserved
loop-t-preserved c =
    let room = wide_room _ _ _ _ _ _ _ _ c.requires c.rows_at-start.ensures c.loop-t.invariant (omega arith) in
    wide_written _ _ _ _ _ _ _ _ _ c.requires.0 room.1 room.2 c.loop-t.invariant c.put_32.ensures c.put_32-in-loop-t.ensures

pub returns : goal.returns
returns c = slices_all _ _ _ _ _ _ _ _ c.loop-t.invariant (omega arith) c.rows_at-start.ensures
