-- `has_bad_width` meets its contract.
use mathlib.Core.Path.{ap, ◌∙◌}
use Rattle.word.specs.Word.{bad_width}
use Rattle.set_file.proofs.has_bad_width.Goals as goal

pub returns : goal.returns
returns c = c.is_bad_width.ensures ∙ ap bad_width c.register_width.ensures
