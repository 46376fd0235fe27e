use borrow.Author.Rules.{rules}
use Rattle.spread_words.proofs.SpreadLaws.{keeping_start, keeping_turn, keeping_end, keeping_full}
use Rattle.spread_words.proofs.keep_alive.Goals as goal

pub loop-w-init : goal.loop-w-init
loop-w-init c = keeping_start _ _ _

pub returns-then-words-at : goal.returns-then-words-at
returns-then-words-at c = λ room. keeping_full _ _ _ _ _ _ _ c.loop-w.invariant c.if-words-at.true room

pub loop-w-preserved : goal.loop-w-preserved
loop-w-preserved c = keeping_turn _ _ _ _ _ _ _ c.loop-w.invariant (search rules) c.if-words-at.false

pub returns : goal.returns
returns c = λ room. keeping_end _ _ _ _ _ _ _ c.loop-w.invariant (search rules)
