-- `turn_in` meets its contract: the dead bits of the slots passed are turned.
use Rattle.spread_words.proofs.TurnLaws.{TurnedIn}
use Rattle.spread_words.proofs.turn_in.Given as goal

abbrev pub invariant-loop-i : goal.invariant-loop-i
invariant-loop-i l = TurnedIn l.slots l.words l.dead l.i
