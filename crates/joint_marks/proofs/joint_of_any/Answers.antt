use mathlib.Core.Path.{refl}
use native.Mathlib.Omega.{arith}
use Rattle.joint_marks.proofs.JointLaws.{gathered_start, gathered_turn, gathered_end}
use Rattle.joint_marks.proofs.joint_of_any.Goals as goal

pub loop-j-init : goal.loop-j-init
loop-j-init c = (refl, gathered_start _ _ _ refl)

pub loop-j-preserved : goal.loop-j-preserved
loop-j-preserved c = (c.add_row.array_long, gathered_turn _ _ _ _ _ _ c.loop-j.invariant.1 c.row_of.ensures c.add_row.ensures)

pub returns : goal.returns
returns c = gathered_end _ _ c.loop-j.j _ c.loop-j.all c.loop-j.invariant.1 (omega arith)
