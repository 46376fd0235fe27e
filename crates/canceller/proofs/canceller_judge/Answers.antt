use mathlib.Core.Path.{ap, ◌∙◌}
use Rattle.crossing.specs.Boundary.{judged_of}
use Rattle.canceller.proofs.canceller_judge.Goals as goal

pub returns : goal.returns
returns c = c.from.ensures ∙ ap judged_of c.judge.ensures
