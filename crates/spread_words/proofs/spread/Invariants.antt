-- `spread` meets its contract: the words passed stand in the slots of their highest bits.
use Rattle.spread_words.proofs.SpreadLaws.{Spreading}
use Rattle.spread_words.proofs.spread.Given as goal

abbrev pub invariant-loop-w : goal.invariant-loop-w
invariant-loop-w l = Spreading l.words l.slots l.dead l.next l.w-index
