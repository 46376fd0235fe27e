use mathlib.Core.Path.{refl}
use lib.Count.{count_trailing_zeros}
use Rattle.word.proofs.LowestLaws.{Lowest, trailing_lowest}
use Rattle.turned_words.proofs.LoopLaws.{into_start, into_inside, into_turn, into_end}
use borrow.Author.Rules.{rules}
use Rattle.turned_words.proofs.xor_into.Goals as goal
use Rattle.turned_words.proofs.xor_into.Goals.{In-loop-left}

pub loop-left-init : goal.loop-left-init
loop-left-init c = into_start _ _ _ _ (search rules) c.low_mask.ensures

lowest : (c : In-loop-left) → Lowest c.loop-left.left (count_trailing_zeros 64 c.loop-left.left)
lowest c = trailing_lowest _ _ c.loop-left-test.true c.loop-left.invariant.word refl

pub bounds-words-low : goal.bounds-words-low
bounds-words-low c = into_inside _ _ _ _ _ _ c.loop-left.invariant (lowest (goal.at.bounds-words-low c).In-loop-left)

pub bounds-words-low-in-loop-left : goal.bounds-words-low-in-loop-left
bounds-words-low-in-loop-left c = into_inside _ _ _ _ _ _ c.loop-left.invariant (lowest (goal.at.bounds-words-low-in-loop-left c).In-loop-left)

pub loop-left-preserved : goal.loop-left-preserved
loop-left-preserved c = into_turn _ _ _ _ _ _ c.loop-left.invariant (lowest (goal.at.loop-left-preserved c).In-loop-left)

pub returns : goal.returns
returns c = into_end _ _ _ _ _ c.loop-left.invariant c.loop-left-test.false
