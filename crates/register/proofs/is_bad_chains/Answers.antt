-- `is_bad_chains` meets its contract, which is its code.
use borrow.Author.Rules.{rules}
use Rattle.register.specs.Circuit.{bad_chains}
use Rattle.register.proofs.is_bad_chains.Goals as goal

pub returns : goal.returns
unfolding bad_chains
returns c = search rules
