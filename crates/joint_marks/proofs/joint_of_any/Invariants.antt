-- `joint_of_any` meets its contract. The loop's invariant: the marks of the rows before `j`.
use mathlib.Core.Path.{◌≡◌}
use lib.ListN.{length}
use Rattle.joint_marks.proofs.JointLaws.{Gathered}
use Rattle.joint_marks.proofs.joint_of_any.Given as goal

abbrev pub invariant-loop-j : goal.invariant-loop-j
invariant-loop-j l = (length l.all ≡ 32) × Gathered l.list l.rows l.j l.all
