use mathlib.Core.Path.{ap, ◌∙◌}
use Rattle.crossing.specs.Boundary.{stretch_of}
use Rattle.canceller.proofs.canceller_mark_row.Goals as goal

pub returns : goal.returns
returns c = c.from.ensures ∙ ap stretch_of c.mark_place.ensures
