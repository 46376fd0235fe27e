use native.Mathlib.Omega.{arith}
use Rattle.plan_lines.proofs.PieceLaws.{lining_start, lining_turn, lining_end}
use borrow.Author.Rules.{rules}
use Rattle.plan_lines.proofs.put_word_lines.Goals as goal

pub loop-i-init : goal.loop-i-init
loop-i-init c = lining_start _ _ _ _ _ c.min-place.ensures

pub loop-i-preserved : goal.loop-i-preserved
loop-i-preserved c = lining_turn _ _ _ _ _ _ _ _ _ _ c.loop-i.invariant (omega arith) (search rules) c.put_word_line-place.ensures

pub returns : goal.returns
returns c = lining_end _ _ _ _ _ _ _ _ c.loop-i.invariant (omega arith)
