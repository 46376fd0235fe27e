-- `word_parities` meets its contract: the words passed, from the last on, are done.
use Rattle.word.proofs.ParityLaws.{Paritied}
use Rattle.word.proofs.word_parities.Given as goal

abbrev pub invariant-loop-i : goal.invariant-loop-i
invariant-loop-i l = Paritied l.words l.y l.i l.bits
