use mathlib.Core.Path.{ap, ◌∙◌}
use Rattle.crossing.specs.Boundary.{expected_to}
use Rattle.canceller.proofs.canceller_expect.Goals as goal

pub returns : goal.returns
returns c = c.from.ensures ∙ ap expected_to c.expect.ensures
