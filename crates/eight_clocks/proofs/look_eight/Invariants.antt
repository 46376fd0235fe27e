-- `look_eight` meets its contract. The loop's invariant: the words before the index are looked up, and the others as they were.
use Rattle.std.proofs.Common.{◌≡◌, ◌++◌, map, min, take, drop}
use Rattle.eight_clocks.specs.Eight.{looked_on}
use Rattle.eight_clocks.proofs.look_eight.Given as goal

abbrev pub invariant-loop-word : goal.invariant-loop-word
invariant-loop-word l = l.words ≡ map (looked_on (min l.m 64) l.table 8) (take l.word-index l.initial.words) ++ drop l.word-index l.initial.words
