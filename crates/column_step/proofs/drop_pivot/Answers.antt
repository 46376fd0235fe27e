use native.Mathlib.Omega.{arith}
use borrow.Author.Rules.{rules}
use Rattle.column_step.proofs.PivotLaws.{dropping_start, dropping_turn, dropping_end}
use Rattle.column_step.proofs.drop_pivot.Goals as goal

pub returns-then-words-at : goal.returns-then-words-at
returns-then-words-at c = λ h e. let z : ⊥ = omega arith in absurd z

pub loop-i-init : goal.loop-i-init
loop-i-init c = dropping_start _ _ _ (search rules)

pub loop-i-preserved : goal.loop-i-preserved
loop-i-preserved c = dropping_turn _ _ _ _ _ _ c.loop-i.invariant (search rules) c.cleared_word.ensures

pub returns : goal.returns
returns c = λ h e. dropping_end _ _ _ _ _ c.loop-i.invariant (search rules) e
