-- `shared_parity` meets its contract: its code is the definition.
use Rattle.word.specs.Word.{parity}
use Rattle.word.proofs.shared_parity.Goals as goal

pub returns : goal.returns
unfolding parity
returns c = c.from.ensures
