use Rattle.text.proofs.Laws.{digiting_start, digiting_turn, digiting_end}
use borrow.Author.Rules.{rules}
use Rattle.text.proofs.digits_of.Goals as goal

pub loop-left-init : goal.loop-left-init
loop-left-init c = digiting_start _ _ c.ranges.n.fits (search rules)

pub loop-left-preserved : goal.loop-left-preserved
loop-left-preserved c = digiting_turn _ _ _ _ c.loop-left.invariant (search rules)

pub returns : goal.returns
returns c = digiting_end _ _ _ _ c.loop-left.invariant (search rules)
