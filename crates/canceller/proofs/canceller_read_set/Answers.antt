use mathlib.Core.Path.{ap₂, ◌∙◌}
use Rattle.crossing.specs.Boundary.{set_of}
use Rattle.canceller.proofs.canceller_read_set.Goals as goal

pub returns : goal.returns
returns c = c.from.ensures ∙ ap₂ set_of c.read_set.ensures.answer c.read_set.ensures.spread
