-- `judge_record` meets its contract: each way out by its law.
use mathlib.Core.Path.{refl, sym}
use lib.Seq.{length-take-le}
use borrow.Author.Rules.{rules}
use Rattle.std.specs.Prelude.{Ok}
use Rattle.plan_writer.specs.Writing.{said}
use Rattle.guarantee.proofs.WorkLaws.{Made, got_refused, made_file, got_judged}
use Rattle.guarantee.proofs.judge_record.Goals as goal
use Rattle.guarantee.proofs.judge_record.Goals.{In_ok-length}

-- what making the plan left
made : (c : In_ok-length)
    → Made c.args.set.now c.args.working.now c.args.words.now c.args.file.now (said (Ok c.in_ok-length.length)) c.make_plan.new.working c.make_plan.new.words c.make_plan.new.file
made c = (c.in_ok-length.ensures.answer, (c.in_ok-length.ensures.working, (c.in_ok-length.ensures.words, c.in_ok-length.ensures.file)))

pub returns-in_err-length : goal.returns-in_err-length
returns-in_err-length c =
    let left = c.in_err-length.ensures in
    record {
      answer = got_refused _ c.args.working.now c.args.words.now c.args.file.now _ _ _ _ (left.answer, (left.working, (left.words, left.file))) _ c.from_residual.result _ (search rules) refl;
      working = left.working;
      words = left.words;
      file = left.file;
    }

pub slice_bounds-judge_signed-end : goal.slice_bounds-judge_signed-end
slice_bounds-judge_signed-end c =
    (made_file _ c.args.working.now c.args.words.now c.args.file.now _ _ _ _ (made (goal.at.slice_bounds-judge_signed-end c).In_ok-length) _ refl).0

pub slice_bounds-judge_signed-end-2 : goal.slice_bounds-judge_signed-end-2
slice_bounds-judge_signed-end-2 c =
    sym (length-take-le _ _ (made_file _ c.args.working.now c.args.words.now c.args.file.now _ _ _ _ (made (goal.at.slice_bounds-judge_signed-end-2 c).In_ok-length) _ refl).0)

pub returns : goal.returns
returns c =
    let plan = made (goal.at.returns c).In_ok-length in
    record { answer = got_judged _ c.args.working.now c.args.words.now c.args.file.now _ _ _ _ plan _ refl _ _ c.judge_signed.ensures; working = plan.1.0; words = plan.1.1.0; file = plan.1.1.1 }
