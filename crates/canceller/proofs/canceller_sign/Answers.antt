use mathlib.Core.Path.{ap, ◌∙◌}
use Rattle.crossing.specs.Boundary.{signed_of}
use Rattle.canceller.proofs.canceller_sign.Goals as goal

pub returns : goal.returns
returns c = c.from.ensures ∙ ap signed_of c.sign_record.ensures
