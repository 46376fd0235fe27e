-- `check_ties` meets its contract: nothing where there is no entry, else one test for each number, in the order of the list.
use Rattle.ties.proofs.EntryLaws.{tie_tests_none}
use Rattle.word.proofs.ReplyLaws.{refusals}
use Rattle.ties.proofs.check_ties.Goals as goal

pub returns-then-count-eq0 : goal.returns-then-count-eq0
returns-then-count-eq0 c = tie_tests_none _ _ _ _ c.if-count-eq0.true

pub returns-then-has_wrong_cells : goal.returns-then-has_wrong_cells
returns-then-has_wrong_cells c = search refusals depth 20 fits 20000

pub returns-then-has_wrong_order : goal.returns-then-has_wrong_order
returns-then-has_wrong_order c = search refusals depth 20 fits 20000

pub returns-then-has_wrong_sides : goal.returns-then-has_wrong_sides
returns-then-has_wrong_sides c = search refusals depth 20 fits 20000

pub returns : goal.returns
returns c = search refusals depth 20 fits 20000
