-- `has_bad_inversion` meets its contract.
use mathlib.Core.Path.{ap₂, ◌∙◌}
use Rattle.register.specs.Circuit.{bad_inversion}
use Rattle.set_file.proofs.has_bad_inversion.Goals as goal

pub returns : goal.returns
returns c = c.is_beyond.ensures ∙ ap₂ bad_inversion c.register_width.ensures c.inversion_word.ensures
