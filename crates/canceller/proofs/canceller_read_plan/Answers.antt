use mathlib.Core.Path.{ap, ◌∙◌}
use Rattle.crossing.specs.Boundary.{read_of}
use Rattle.canceller.proofs.canceller_read_plan.Goals as goal

pub returns : goal.returns
returns c = record { answer = c.from.ensures ∙ ap read_of c.read_plan.ensures.answer; list = c.read_plan.ensures.list }
