-- `lower_words` meets its contract. The loop's invariant: the words before the index are moved down, and the others as they were.
use Rattle.std.proofs.Common.{◌≡◌, ◌++◌, ◌/◌, ◌^◌, map, take, drop}
use Rattle.eighth_columns.proofs.lower_words.Given as goal

abbrev pub invariant-loop-word : goal.invariant-loop-word
invariant-loop-word l = l.words ≡ map (λ w. w / 2 ^ l.shift) (take l.word-index l.initial.words) ++ drop l.word-index l.initial.words
