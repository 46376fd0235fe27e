-- `reduce_plainly` meets its contract: the columns passed have been stepped through.
use Prim.Native.Nat.{◌-◌}
use lib.ListN.{length}
use Rattle.elimination.proofs.LoopLaws.{Reduced}
use Rattle.elimination.proofs.reduce_plainly.Given as goal

abbrev pub invariant-loop-i : goal.invariant-loop-i
invariant-loop-i l = Reduced l.columns l.initial.held l.held l.left l.i

abbrev pub decreases-loop-i : goal.decreases-loop-i
decreases-loop-i l = length l.columns - l.i
