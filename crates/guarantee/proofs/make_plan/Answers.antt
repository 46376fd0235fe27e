-- `make_plan` meets its contract: each way out by its law.
use mathlib.Core.Path.{refl, sym}
use lib.Seq.{length-take-le}
use borrow.Author.Rules.{rules}
use Rattle.std.specs.Prelude.{Ok}
use Rattle.planner.proofs.CallLaws.{Ends}
use Rattle.guarantee.proofs.WorkLaws.{made_unplanned, planned_words, made_planned}
use Rattle.guarantee.proofs.make_plan.Goals as goal
use Rattle.guarantee.proofs.make_plan.Goals.{In_ok-planned}

-- what planning left
planned : (c : In_ok-planned) → Ends c.args.set.now c.args.working.now c.args.words.now (Ok c.in_ok-planned.planned) c.plan.new.working c.plan.new.words
planned c = (c.in_ok-planned.ensures.answer, (c.in_ok-planned.ensures.working, c.in_ok-planned.ensures.words))

pub returns-in_err-planned : goal.returns-in_err-planned
returns-in_err-planned c =
    let left = c.in_err-planned.ensures in
    let made =
    made_unplanned _ c.args.working.now c.args.words.now _ _ _ (left.answer, (left.working, left.words)) c.args.file.now c.from_residual.result _ (search rules) refl in
    record { answer = made.0; working = made.1.0; words = made.1.1.0; file = made.1.1.1 }

pub slice_bounds-write_plan-end : goal.slice_bounds-write_plan-end
slice_bounds-write_plan-end c =
    (planned_words _ c.args.working.now c.args.words.now _ _ _ (planned (goal.at.slice_bounds-write_plan-end c).In_ok-planned) _ refl).0

pub slice_bounds-write_plan-end-2 : goal.slice_bounds-write_plan-end-2
slice_bounds-write_plan-end-2 c =
    sym (length-take-le _ _ (planned_words _ c.args.working.now c.args.words.now _ _ _ (planned (goal.at.slice_bounds-write_plan-end-2 c).In_ok-planned) _ refl).0)

pub returns : goal.returns
returns c =
    let left = planned (goal.at.returns c).In_ok-planned in
    let made =
    made_planned _ c.args.working.now c.args.words.now _ _ _ left _ refl c.args.file.now _ _ c.write_plan.ensures.answer c.write_plan.ensures.output in
    record { answer = made.0; working = made.1.0; words = made.1.1.0; file = made.1.1.1 }
