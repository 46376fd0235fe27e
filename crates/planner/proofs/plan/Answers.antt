-- `plan` meets its contract: there are no words, or they get their expected bits.
use mathlib.Core.Path.{refl, sym}
use Rattle.word.specs.Reply.{answer}
use lib.Seq.{length-take-le}
use borrow.Author.Rules.{rules}
use Rattle.expectation.proofs.CallLaws.{expected_taken}
use Rattle.planner.proofs.CallLaws.{WordsEnd, ends_refused, worded_words, worded_few, ends_planned}
use Rattle.planner.proofs.plan.Goals as goal
use Rattle.planner.proofs.plan.Goals.{In_ok-made}

-- what making the words left
made : (c : In_ok-made) → WordsEnd c.args.set.now c.args.working.now c.args.words.now (answer (record { m = c.in_ok-made.made.taken.register.m; q = c.in_ok-made.made.q })) c.make_words.new.working c.make_words.new.words
made c = (c.in_ok-made.ensures.answer, (c.in_ok-made.ensures.working, c.in_ok-made.ensures.words))

pub returns-in_err-made : goal.returns-in_err-made
returns-in_err-made c =
    let left = c.in_err-made.ensures in
    let ends = ends_refused _ c.args.working.now c.args.words.now _ _ _ (left.answer, (left.working, left.words)) c.from_residual.result _ (search rules) refl in
    record { answer = ends.0; working = ends.1.0; words = ends.1.1 }

pub slice_bounds-expected_bits-end : goal.slice_bounds-expected_bits-end
slice_bounds-expected_bits-end c =
    (worded_words _ c.args.working.now c.args.words.now _ _ _ (made (goal.at.slice_bounds-expected_bits-end c).In_ok-made) _ _ refl).0

pub slice_bounds-expected_bits-end-2 : goal.slice_bounds-expected_bits-end-2
slice_bounds-expected_bits-end-2 c =
    sym (length-take-le _ _ (worded_words _ c.args.working.now c.args.words.now _ _ _ (made (goal.at.slice_bounds-expected_bits-end-2 c).In_ok-made) _ _ refl).0)

pub returns : goal.returns
returns c =
    let left = made (goal.at.returns c).In_ok-made in
    let ends =
    ends_planned _ c.args.working.now c.args.words.now _ _ _ left _ _ refl _
    (expected_taken _ _ _ (worded_few _ c.args.working.now c.args.words.now _ _ _ left _ _ refl) (c.expected_bits-expected.ensures c.in_ok-made.ensures.taken)) in
    record { answer = ends.0; working = ends.1.0; words = ends.1.1 }
