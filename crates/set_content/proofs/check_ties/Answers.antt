-- `check_ties` meets its contract: the rows of the list by their place and stride.
use Rattle.set_content.proofs.ContentLaws.{tied_lists}
use Rattle.set_content.proofs.check_ties.Goals as goal

pub returns : goal.returns
returns c = tied_lists _ _ _ _ _ _ _ c.packed.ensures c.check_ties.ensures
