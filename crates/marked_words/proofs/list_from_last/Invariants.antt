-- `list_from_last` meets its contract. The loop's invariant: written over the end of the first `place` places, the words of the bits in
-- `left` make the list.
use Prim.Native.Nat.{◌^◌, ◌≤◌, ◌<◌}
use lib.ListN.{length}
use Rattle.marked_words.proofs.ListLaws.{Taking}
use Rattle.marked_words.proofs.list_from_last.Given as goal

abbrev pub invariant-loop-left : goal.invariant-loop-left
invariant-loop-left l = (l.left < 2 ^ 64) × (l.place ≤ length l.columns) × Taking l.words l.marks l.initial.columns l.columns l.place l.left

abbrev pub decreases-loop-left : goal.decreases-loop-left
decreases-loop-left l = l.left
