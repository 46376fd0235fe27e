use native.Mathlib.Omega.{arith}
use Rattle.plan_writer.proofs.WriteLaws.{bytes_start, bytes_turn, part_long, bytes_end}
use Rattle.plan_writer.proofs.write_low_bytes.Goals as goal

pub loop-byte-init : goal.loop-byte-init
loop-byte-init c = bytes_start _ _ _

pub loop-byte-preserved : goal.loop-byte-preserved
loop-byte-preserved c = bytes_turn _ _ _ _ _ _ (omega (arith, part_long c.args.out.now c.args.at c.args.n c.requires)) c.loop-byte.invariant

pub returns : goal.returns
returns c =
    bytes_end c.args.out.now _ _ _ c.loop-byte.byte-index _ _ c.requires (omega (arith, part_long c.args.out.now c.args.at c.args.n c.requires)) c.loop-byte.invariant
