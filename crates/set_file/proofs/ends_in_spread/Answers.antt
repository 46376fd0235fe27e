-- `ends_in_spread` meets its contract.
use Rattle.set_layout.specs.Layout.{slices_at}
use lib.ListN.{length}
use lib.Dec.{ltb}
use mathlib.Core.Path.{ap, ◌∙◌}
use Rattle.set_file.proofs.ends_in_spread.Goals as goal

pub returns : goal.returns
returns c = ap (ltb (length c.args.set.now)) (c.slices_at.ensures ∙ ap slices_at c.chain_count.ensures)
