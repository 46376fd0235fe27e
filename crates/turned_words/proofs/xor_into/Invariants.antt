-- `xor_into` meets its contract. The loop's invariant: with x in the words of the bits in `left` too, it is in those of all marks.
use Rattle.turned_words.proofs.LoopLaws.{Into}
use Rattle.turned_words.proofs.xor_into.Given as goal

abbrev pub invariant-loop-left : goal.invariant-loop-left
invariant-loop-left l = Into l.initial.words l.words l.marks l.x l.left

abbrev pub decreases-loop-left : goal.decreases-loop-left
decreases-loop-left l = l.left
