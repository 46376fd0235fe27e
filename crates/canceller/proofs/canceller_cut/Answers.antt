use mathlib.Core.Path.{ap, ◌∙◌}
use Rattle.crossing.specs.Boundary.{cutting_of}
use Rattle.canceller.proofs.canceller_cut.Goals as goal

pub returns : goal.returns
returns c = record { answer = c.from.ensures ∙ ap cutting_of c.cut.ensures.answer; list = c.cut.ensures.cuts }
