-- `unclock_eight` meets its contract. The loop's invariant: the words before the index are looked up, and the others as they were.
use Rattle.std.proofs.Common.{◌≡◌, ◌++◌, ◌/◌, ◌%◌, map, take, drop, get_or}
use Rattle.std.specs.Int.Bits.{bit_xor}
use Rattle.unclocking.proofs.unclock_eight.Given as goal

abbrev pub invariant-loop-word : goal.invariant-loop-word
invariant-loop-word l = l.words ≡ map (λ w. bit_xor (w / 256) (get_or l.table (w % 256) 0)) (take l.word-index l.initial.words) ++ drop l.word-index l.initial.words
