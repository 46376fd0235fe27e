use mathlib.Core.Path.{refl}
use native.Mathlib.Omega.{arith}
use mathlib.Core.List.{[]}
use Rattle.column_basis.proofs.LoopLaws.{units_start, units_turn}
use borrow.Author.Rules.{rules}
use Rattle.column_basis.proofs.unit_words.Goals as goal

pub loop-i-init : goal.loop-i-init
loop-i-init c = (refl, units_start [])

pub loop-i-preserved : goal.loop-i-preserved
loop-i-preserved c = (search rules, units_turn _ _ c.loop-i.invariant.0 (omega arith) c.loop-i.invariant.1)
