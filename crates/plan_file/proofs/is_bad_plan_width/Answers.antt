-- `is_bad_plan_width` meets its contract, which is its code.
use Rattle.plan_file.proofs.TestLaws.{width_test}
use Rattle.plan_file.proofs.is_bad_plan_width.Goals as goal

pub returns : goal.returns
returns c = width_test _ _ _ c.width.ensures.0 c.is_bad_width.ensures
