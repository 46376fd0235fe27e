-- `tie_count_of` meets its contract.
use Rattle.numbers.specs.Bytes.{count_at}
use mathlib.Core.Path.{ap, ◌∙◌}
use Rattle.set_layout.proofs.tie_count_of.Goals as goal

pub returns : goal.returns
returns c = c.read_count.ensures.0 ∙ ap (count_at c.args.set.now) c.tie_count_at.ensures
