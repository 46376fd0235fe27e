-- `check_words` meets its contract: one test for each number, in the order of the list.
use Rattle.word.proofs.ReplyLaws.{refusals}
use Rattle.expectation.specs.Expecting.{word_tests}
use Rattle.expectation.proofs.check_words.Goals as goal

pub returns-then-is_bad_word_count : goal.returns-then-is_bad_word_count
unfolding word_tests
returns-then-is_bad_word_count c = search refusals depth 20 fits 20000

pub returns-then-is_unreduced : goal.returns-then-is_unreduced
unfolding word_tests
returns-then-is_unreduced c = search refusals depth 20 fits 20000

pub returns : goal.returns
unfolding word_tests
returns c = search refusals depth 20 fits 20000
