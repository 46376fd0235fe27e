-- `is_bad_share` meets its contract: k isn't 1 to m.
use borrow.Author.Rules.{rules}
use Rattle.cutter.specs.Cutting.{bad_share}
use Rattle.cutter.proofs.is_bad_share.Goals as goal

pub returns : goal.returns
unfolding bad_share
returns c = search rules
