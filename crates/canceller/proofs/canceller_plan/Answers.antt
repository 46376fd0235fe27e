use mathlib.Core.Path.{ap, ◌∙◌}
use Rattle.crossing.specs.Boundary.{planned_of}
use Rattle.canceller.proofs.canceller_plan.Goals as goal

pub returns : goal.returns
returns c = record { answer = c.from.ensures ∙ ap planned_of c.plan.ensures.answer; working = c.plan.ensures.working; words = c.plan.ensures.words }
