-- `list_whole` meets its contract. The loop's invariant: behind the places that stay, the first `c` words stand.
use mathlib.Core.Path.{◌≡◌}
use lib.ListN.{length}
use Rattle.marked_words.proofs.WholeLaws.{Copying}
use Rattle.marked_words.proofs.list_whole.Given as goal

abbrev pub invariant-loop-c : goal.invariant-loop-c
invariant-loop-c l = (length l.columns ≡ length l.initial.columns) × Copying l.words l.initial.columns l.columns l.c
