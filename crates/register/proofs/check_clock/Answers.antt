-- `check_clock` meets its contract: one test for each number, in the order of the list.
use Rattle.register.specs.Clock.{clock_tests}
use Rattle.word.proofs.ReplyLaws.{refusals}
use Rattle.register.proofs.check_clock.Goals as goal

pub returns-then-is_bad_width : goal.returns-then-is_bad_width
unfolding clock_tests
returns-then-is_bad_width c = search refusals depth 20 fits 20000

pub returns-then-is_bad_taps : goal.returns-then-is_bad_taps
unfolding clock_tests
returns-then-is_bad_taps c = search refusals depth 20 fits 20000

pub returns-then-is_beyond : goal.returns-then-is_beyond
unfolding clock_tests
returns-then-is_beyond c = search refusals depth 20 fits 20000

pub returns-then-is_bad_chains : goal.returns-then-is_bad_chains
unfolding clock_tests
returns-then-is_bad_chains c = search refusals depth 20 fits 20000

pub returns-then-is_bad_spread : goal.returns-then-is_bad_spread
unfolding clock_tests
returns-then-is_bad_spread c = search refusals depth 20 fits 20000

pub returns-then-is_bad_row_length : goal.returns-then-is_bad_row_length
unfolding clock_tests
returns-then-is_bad_row_length c = search refusals depth 20 fits 20000

pub returns-then-has_spare_bit : goal.returns-then-has_spare_bit
unfolding clock_tests
returns-then-has_spare_bit c = search refusals depth 20 fits 20000

pub returns-then-is_beyond-2 : goal.returns-then-is_beyond-2
unfolding clock_tests
returns-then-is_beyond-2 c = search refusals depth 20 fits 20000

pub returns : goal.returns
unfolding clock_tests
returns c = search refusals depth 20 fits 20000
