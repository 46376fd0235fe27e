-- `expect` meets its contract, by the reader's answer and then by the numbers about the words.
use borrow.Author.Rules.{rules}
use Rattle.expectation.proofs.CallLaws.{expect_set_refused, expect_words_refused, expect_answers}
use Rattle.expectation.proofs.expect.Goals as goal

pub returns-in_err-taken : goal.returns-in_err-taken
returns-in_err-taken c = expect_set_refused _ _ c.from_residual.result _ (search rules) c.in_err-taken.ensures.answer

pub returns-in_err-check_words : goal.returns-in_err-check_words
returns-in_err-check_words c =
    let taken = c.in_ok-taken.ensures.taken in
    expect_words_refused _ c.args.words.now taken.none _ c.from_residual-in_err-check_words.result _ (search rules) taken.width c.in_err-check_words.ensures

pub returns : goal.returns
returns c =
    let taken = c.in_ok-taken.ensures.taken in
    expect_answers _ c.args.words.now _ _ taken c.in_ok-check_words.ensures (c.expected_bits.ensures taken)
