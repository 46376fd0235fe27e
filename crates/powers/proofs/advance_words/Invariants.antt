-- `advance_words` meets its contract. The loop's invariant: the words before the index are advanced, and the others as they were.
use Rattle.std.proofs.Common.{◌≡◌, ◌++◌, map, min, take, drop}
use Rattle.register.specs.Circuit.{advanced}
use Rattle.powers.proofs.advance_words.Given as goal

abbrev pub invariant-loop-word : goal.invariant-loop-word
invariant-loop-word l = l.words ≡ map (advanced (min l.register.m 64) l.register.taps) (take l.word-index l.initial.words) ++ drop l.word-index l.initial.words
