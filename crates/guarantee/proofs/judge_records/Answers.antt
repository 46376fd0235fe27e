-- `judge_records` meets its contract: each way out by its law.
use mathlib.Core.Path.{refl, sym}
use lib.Seq.{length-take-le}
use Rattle.std.specs.Prelude.{Ok, Err}
use Rattle.plan_writer.specs.Writing.{said}
use Rattle.guarantee.proofs.WorkLaws.{Made, got_refused, made_file, got_judged, both}
use Rattle.guarantee.proofs.judge_records.Goals as goal
use Rattle.guarantee.proofs.judge_records.Goals.{In-Ok}

-- what making the plan left
made : (c : In-Ok)
    → Made c.args.set.now c.args.working.now c.args.words.now c.args.file.now (said (Ok c.in-Ok.length)) c.make_plan.new.working c.make_plan.new.words c.make_plan.new.file
made c = (c.in-Ok.ensures.answer, (c.in-Ok.ensures.working, (c.in-Ok.ensures.words, c.in-Ok.ensures.file)))

pub returns-in-Err : goal.returns-in-Err
returns-in-Err c =
    let left = c.in-Err.ensures in
    let e = c.in-Err.refusal in
    let plan : Made c.args.set.now c.args.working.now c.args.words.now c.args.file.now (said (Err e)) c.make_plan.new.working c.make_plan.new.words c.make_plan.new.file =
    (left.answer, (left.working, (left.words, left.file))) in
    let got =
    both c.args.set.now c.args.first.now c.args.second.now c.args.working.now c.args.words.now c.args.file.now _ _ _ _ _
    (got_refused _ c.args.working.now c.args.words.now c.args.file.now _ _ _ _ plan c.args.first.now (Err e) e refl refl)
    (got_refused _ c.args.working.now c.args.words.now c.args.file.now _ _ _ _ plan c.args.second.now (Err e) e refl refl) plan.1 in
    record { first = got.0; second = got.1.0; alike = got.1.1.0; working = got.1.1.1.0; words = got.1.1.1.1.0; file = got.1.1.1.1.1 }

pub slice_bounds-plan-end : goal.slice_bounds-plan-end
slice_bounds-plan-end c =
    (made_file _ c.args.working.now c.args.words.now c.args.file.now _ _ _ _ (made (goal.at.slice_bounds-plan-end c).In-Ok) _ refl).0

pub slice_bounds-plan-end-in-Ok : goal.slice_bounds-plan-end-in-Ok
slice_bounds-plan-end-in-Ok c =
    sym (length-take-le _ _ (made_file _ c.args.working.now c.args.words.now c.args.file.now _ _ _ _ (made (goal.at.slice_bounds-plan-end-in-Ok c).In-Ok) _ refl).0)

pub returns-in-Ok : goal.returns-in-Ok
returns-in-Ok c =
    let plan = made (goal.at.returns-in-Ok c).In-Ok in
    let got =
    both c.args.set.now c.args.first.now c.args.second.now c.args.working.now c.args.words.now c.args.file.now _ _ _ _ _
    (got_judged _ c.args.working.now c.args.words.now c.args.file.now _ _ _ _ plan _ refl c.args.first.now _ c.judge_signed.ensures)
    (got_judged _ c.args.working.now c.args.words.now c.args.file.now _ _ _ _ plan _ refl c.args.second.now _ c.judge_signed-in-Ok.ensures) plan.1 in
    record { first = got.0; second = got.1.0; alike = got.1.1.0; working = got.1.1.1.0; words = got.1.1.1.1.0; file = got.1.1.1.1.1 }
