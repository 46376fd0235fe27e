-- `has_bad_taps` meets its contract.
use mathlib.Core.Path.{ap₂, ◌∙◌}
use Rattle.register.specs.Circuit.{bad_taps}
use Rattle.set_file.proofs.has_bad_taps.Goals as goal

pub returns : goal.returns
returns c = c.is_bad_taps.ensures ∙ ap₂ bad_taps c.register_width.ensures c.tap_word.ensures
