-- `spread_words_there` meets its contract. The loop's invariant: the words of the chains passed are read.
use Rattle.set_layout.specs.Layout.{spread_of, no_words}
use Rattle.word.specs.Reply.{front}
use lib.ListN.{take, length}
use mathlib.Core.Path.{◌≡◌}
use Rattle.set_layout.proofs.spread_words_there.Given as goal

abbrev pub invariant-loop-c : goal.invariant-loop-c
invariant-loop-c l = (length l.words ≡ 256) × (l.words ≡ front (take l.c (spread_of l.set)) no_words)
