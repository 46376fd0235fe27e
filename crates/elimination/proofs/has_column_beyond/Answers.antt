-- `has_column_beyond` meets its contract: no word has a bit at or above 64, and an OR has a bit where some word has it.
use mathlib.Core.Path.{◌∙◌}
use Rattle.elimination.proofs.LoopLaws.{none_beyond}
use Rattle.elimination.proofs.has_column_beyond.Goals as goal

pub returns-then-m-ge64 : goal.returns-then-m-ge64
returns-then-m-ge64 c = none_beyond _ _ c.if-m-ge64.true (λ i. (c.type_inv.columns i).fits)

pub returns : goal.returns
returns c = c.is_beyond.ensures ∙ c.or_all.ensures _
