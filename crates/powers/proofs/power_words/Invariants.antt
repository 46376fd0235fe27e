-- `power_words` meets its contract. The loop's invariant: the words before the index are changed, and the others as they were.
use Rattle.std.proofs.Common.{◌≡◌, ◌++◌, map, take, drop}
use Rattle.powers.specs.Powers.{from_powers}
use Rattle.powers.proofs.power_words.Given as goal

abbrev pub invariant-loop-word : goal.invariant-loop-word
invariant-loop-word l = l.words ≡ map (from_powers l.powers) (take l.word-index l.initial.words) ++ drop l.word-index l.initial.words
