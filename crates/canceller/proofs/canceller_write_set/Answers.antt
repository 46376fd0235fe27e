use mathlib.Core.Path.{ap, ◌∙◌}
use Rattle.crossing.specs.Boundary.{written_of}
use Rattle.canceller.proofs.canceller_write_set.Goals as goal

pub returns : goal.returns
returns c = record { answer = c.from.ensures ∙ ap written_of c.write_set-written.ensures.answer; file = c.write_set-written.ensures.file }
