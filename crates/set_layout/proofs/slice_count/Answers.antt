-- `slice_count` meets its contract.
use Rattle.set_layout.specs.Layout.{slices_at}
use Rattle.numbers.specs.Bytes.{count_at}
use mathlib.Core.Path.{ap, ◌∙◌}
use Rattle.set_layout.proofs.slice_count.Goals as goal

pub returns : goal.returns
returns c = c.read_count.ensures.0 ∙ ap (count_at c.args.set.now) (c.slices_at.ensures ∙ ap slices_at c.chain_count.ensures)
