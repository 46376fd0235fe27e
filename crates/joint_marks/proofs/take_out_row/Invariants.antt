-- `take_out_row` meets its contract. The loop's invariant: the words before place `i` are without the row's marks.
use Prim.Native.Nat.{◌+◌, ◌*◌}
use Rattle.numbers.specs.Bytes.{word_at}
use Rattle.joint_marks.specs.Joint.{without}
use Rattle.joint_marks.proofs.JointLaws.{Adding}
use Rattle.joint_marks.proofs.take_out_row.Given as goal

abbrev pub invariant-loop-i : goal.invariant-loop-i
invariant-loop-i l = Adding without (λ j. word_at l.list (l.at + 8 * j)) l.initial.cells l.cells l.i
