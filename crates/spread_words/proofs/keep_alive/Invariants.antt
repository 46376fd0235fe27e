-- `keep_alive` meets its contract: the words kept so far stand at the front.
use Rattle.spread_words.proofs.SpreadLaws.{Keeping}
use Rattle.spread_words.proofs.keep_alive.Given as goal

abbrev pub invariant-loop-w : goal.invariant-loop-w
invariant-loop-w l = Keeping l.dead l.slots l.initial.words l.words l.rest l.at l.w-index
