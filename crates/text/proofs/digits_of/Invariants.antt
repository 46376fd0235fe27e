-- `digits_of` meets its contract: the digits of what is left, and those made.
use Rattle.text.proofs.Laws.{Digiting}
use Rattle.text.proofs.digits_of.Given as goal

abbrev pub invariant-loop-left : goal.invariant-loop-left
invariant-loop-left l = Digiting l.n l.bytes l.left l.i

abbrev pub decreases-loop-left : goal.decreases-loop-left
decreases-loop-left l = l.left
