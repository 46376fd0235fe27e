-- `from_powers` meets its contract.
use mathlib.Core.Path.{◌∙◌}
use Rattle.chains.proofs.Laws.{marked_driven}
use Rattle.powers.specs.Powers.{from_powers}
use Rattle.powers.proofs.from_powers.Goals as goal

pub returns : goal.returns
unfolding from_powers
returns c = c.xor_marked.ensures ∙ marked_driven _ _
