-- `is_closed` meets its contract.
use Prim.Native.Nat.{min}
use Rattle.closed_words.proofs.ClosedLaws.{Closing}
use Rattle.closed_words.proofs.is_closed.Given as goal

abbrev pub invariant-loop-w : goal.invariant-loop-w
invariant-loop-w l = Closing (min l.register.m 64) l.register.taps l.words l.w-index
