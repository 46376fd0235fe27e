-- `unclock_words` meets its contract. The loop's invariant: the words before the index are unclocked, and the others as they were.
use Rattle.std.proofs.Common.{◌≡◌, ◌++◌, [], map, min, take, drop}
use Rattle.register.specs.Circuit.{circuit}
use Rattle.unclocking.specs.Unclocked.{earlier}
use Rattle.unclocking.proofs.unclock_words.Given as goal

abbrev pub invariant-loop-word : goal.invariant-loop-word
invariant-loop-word l = l.words ≡ map (earlier (circuit (min l.fn.register.m 64) l.fn.register.taps 0 []) l.clocks) (take l.word-index l.initial.words) ++ drop l.word-index l.initial.words
