use mathlib.Core.Path.{ap, ◌∙◌}
use Rattle.crossing.specs.Boundary.{stretch_of}
use Rattle.canceller.proofs.canceller_ties.Goals as goal

pub returns : goal.returns
returns c = c.from.ensures ∙ ap stretch_of c.ties_place.ensures
