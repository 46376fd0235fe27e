-- `tie_slice` meets its contract.
use mathlib.Core.Path.{ap, ◌∙◌}
use Rattle.numbers.specs.Bytes.{count_at}
use Rattle.ties.proofs.tie_slice.Goals as goal

pub returns : goal.returns
returns c = c.read_count.ensures.0 ∙ ap (count_at c.args.ties.now) c.entry_at.ensures
