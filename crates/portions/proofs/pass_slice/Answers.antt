-- `pass_slice` meets its contract: the words are advanced 8 clocks, or they aren't.
use mathlib.Core.Path.{◌∙◌}
use Rattle.eight_clocks.proofs.EightLaws.{looked_up_lem, left_alone}
use borrow.Author.Rules.{rules}
use Rattle.portions.proofs.pass_slice.Goals as goal

pub returns-then-is_eighth : goal.returns-then-is_eighth
returns-then-is_eighth c = λ h. c.look_eight.ensures h ∙ looked_up_lem c.args.clocks _ _ (search rules)

pub returns-else-is_eighth : goal.returns-else-is_eighth
returns-else-is_eighth c = λ h. left_alone c.args.clocks _ _ (search rules)
