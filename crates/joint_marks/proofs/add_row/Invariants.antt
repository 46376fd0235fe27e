-- `add_row` meets its contract.
use lib.Bits.{bit_or}
use lib.ListN.{get_or}
use Rattle.joint_marks.proofs.JointLaws.{Adding}
use Rattle.joint_marks.proofs.add_row.Given as goal

abbrev pub invariant-loop-i : goal.invariant-loop-i
invariant-loop-i l = Adding bit_or (λ j. get_or l.row j 0) l.initial.all l.all l.i
