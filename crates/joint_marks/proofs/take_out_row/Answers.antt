use native.Mathlib.Omega.{arith}
use Rattle.joint_marks.specs.Joint.{without}
use Rattle.joint_marks.proofs.JointLaws.{adding_start, adding_turn, all_flipped}
use Rattle.joint_marks.proofs.take_out_row.Goals as goal

pub loop-i-init : goal.loop-i-init
loop-i-init c = adding_start _ _ _

pub loop-i-preserved : goal.loop-i-preserved
unfolding without
loop-i-preserved c = rw (all_flipped c.eight_bytes.result c.eight_bytes.type_inv) (adding_turn _ _ _ _ _ _ c.loop-i.invariant (omega arith) c.eight_bytes.ensures)

pub returns : goal.returns
returns c = λ i h. c.loop-i.invariant.done i (omega arith)
