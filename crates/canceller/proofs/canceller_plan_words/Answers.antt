use mathlib.Core.Path.{ap, ◌∙◌}
use Rattle.crossing.specs.Boundary.{worded_of}
use Rattle.canceller.proofs.canceller_plan_words.Goals as goal

pub returns : goal.returns
returns c = record { answer = c.from.ensures ∙ ap worded_of c.plan_words.ensures.answer; working = c.plan_words.ensures.working; words = c.plan_words.ensures.words }
