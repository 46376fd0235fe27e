-- `pass_slice` meets its contract: the words are advanced 8 clocks, or they aren't.
use mathlib.Core.Path.{◌∙◌}
use Rattle.eight_clocks.proofs.EightLaws.{looked_up_lem, left_alone}
use borrow.Author.Rules.{rules}
use Rattle.eighth_columns.proofs.pass_slice.Goals as goal

pub returns-then-is_eighth : goal.returns-then-is_eighth
returns-then-is_eighth c = c.advance_eight.ensures.looked ∙ looked_up_lem c.args.clocks _ _ (search rules)

pub returns-else-is_eighth : goal.returns-else-is_eighth
returns-else-is_eighth c = left_alone c.args.clocks _ _ (search rules)
