use mathlib.Core.Path.{ap, ◌∙◌}
use Rattle.crossing.specs.Boundary.{eliminated_of}
use Rattle.canceller.proofs.canceller_eliminate.Goals as goal

pub returns : goal.returns
returns c = record { answer = c.from.ensures ∙ ap eliminated_of c.eliminate.ensures.answer; list = c.eliminate.ensures.list }
