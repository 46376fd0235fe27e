-- `list_from_first` meets its contract. The loop's invariant: with the words of the bits in `left`, the first `place` places make the
-- list.
use mathlib.Core.Path.{◌≡◌}
use Prim.Native.Nat.{◌^◌, ◌<◌}
use lib.ListN.{length}
use Rattle.marked_words.proofs.ListLaws.{Putting}
use Rattle.marked_words.proofs.list_from_first.Given as goal

abbrev pub invariant-loop-left : goal.invariant-loop-left
invariant-loop-left l =
    (l.left < 2 ^ 64) × (l.left < 2 ^ length l.words) × (length l.columns ≡ length l.initial.columns) × Putting l.words l.marks l.initial.columns l.columns l.place l.left

abbrev pub decreases-loop-left : goal.decreases-loop-left
decreases-loop-left l = l.left
