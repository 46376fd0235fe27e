-- `is_bad_plan_count` meets its contract, which is its code.
use Rattle.plan_file.proofs.TestLaws.{count_test}
use Rattle.plan_file.proofs.is_bad_plan_count.Goals as goal

pub returns : goal.returns
returns c = count_test _ _ _ _ c.width-m.ensures.0 c.count-q.ensures.0 c.is_bad_word_count.ensures
