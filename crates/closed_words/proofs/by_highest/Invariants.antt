-- `by_highest` meets its contract. The loop's invariant: what is even with all words is so with each word that was put down.
use mathlib.Core.Path.{◌≡◌}
use lib.ListN.{length}
use Rattle.closed_words.specs.Closed.{EvenAll}
use Rattle.closed_words.proofs.by_highest.Given as goal

abbrev pub invariant-loop-w : goal.invariant-loop-w
invariant-loop-w l = (length l.tops ≡ 64) × EvenAll l.words l.tops
