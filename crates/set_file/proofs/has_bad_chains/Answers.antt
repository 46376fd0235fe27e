-- `has_bad_chains` meets its contract.
use Rattle.register.specs.Circuit.{bad_chains}
use Rattle.set_layout.specs.Layout.{spread_at}
use lib.ListN.{length}
use lib.Dec.{ltb}
use mathlib.Core.Bool.{Bool, ◌||◌}
use mathlib.Core.Path.{ap, ◌∙◌}
use Rattle.set_file.proofs.has_bad_chains.Goals as goal

pub returns : goal.returns
returns c = ap (λ (b : Bool). ltb (length c.args.set.now) spread_at || b) (c.is_bad_chains.ensures ∙ ap bad_chains c.chain_count.ensures)
