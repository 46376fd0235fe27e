-- `highest_bit` meets its contract: its code is the definition.
use mathlib.Core.Path.{◌∙◌}
use Rattle.word.specs.Word.{highest_bit}
use Rattle.word.proofs.highest_bit.Goals as goal

pub returns : goal.returns
unfolding highest_bit
returns c = c.from.ensures ∙ c.saturating_sub.ensures
