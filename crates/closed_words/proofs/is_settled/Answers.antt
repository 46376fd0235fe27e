-- `is_settled` meets its contract.
use mathlib.Core.Path.{refl}
use mathlib.Core.Bool.{false}
use Rattle.word.proofs.BoolLaws.{true_not_false}
use Rattle.closed_words.proofs.MarkedLaws.{settled}
use Rattle.closed_words.proofs.is_settled.Goals as goal

pub returns-then-not-is_closed : goal.returns-then-not-is_closed
returns-then-not-is_closed c = λ e. absurd (true_not_false false e refl)

pub returns : goal.returns
returns c =
    let args = c.args in
    λ e few. settled _ _ args.list.now args.marks args.t args.words.now args.held.now c.joint_marks-all.result (c.is_closed.ensures c.if-not-is_closed.false) c.joint_marks-all.ensures (c.are_even.ensures e few) few
