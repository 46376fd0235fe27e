use native.Mathlib.Omega.{arith}
use borrow.Author.Rules.{rules}
use mathlib.Core.Path.{refl}
use Rattle.set_layout.proofs.LayoutLaws.{spread_start, spread_turn, spread_end}
use Rattle.set_layout.proofs.spread_words_there.Goals as goal

pub loop-c-init : goal.loop-c-init
loop-c-init c = (refl, spread_start _ refl)

pub loop-c-preserved : goal.loop-c-preserved
loop-c-preserved c = (search rules, spread_turn _ _ _ _ c.loop-c.invariant.1 (omega arith) (omega arith) c.read_word.ensures)

pub returns : goal.returns
returns c = spread_end _ _ c.loop-c.c c.loop-c.invariant.1 (omega arith)
