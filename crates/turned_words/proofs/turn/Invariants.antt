-- `turn` meets its contract: the rows are those of the words passed.
use Rattle.turned_words.proofs.TurnedLaws.{Turning}
use Rattle.turned_words.proofs.turn.Given as goal

abbrev pub invariant-loop-i : goal.invariant-loop-i
invariant-loop-i l = Turning l.words l.rows l.i
