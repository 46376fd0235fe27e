-- `check_plan` meets its contract: the words were gone over.
use Rattle.plan_file.proofs.check_plan.Goals as goal

pub check_listed-requires : goal.check_listed-requires
check_listed-requires c = λ few there. c.is_bad_word_list.ensures there

pub returns : goal.returns
returns c = c.check_listed.ensures
