-- `is_reduced` meets its contract: what is left of the pass decides.
use Rattle.reduced_list.proofs.TopLaws.{Passed}
use Rattle.reduced_list.proofs.is_reduced.Given as goal

abbrev pub invariant-loop-w : goal.invariant-loop-w
invariant-loop-w l = Passed l.words l.seen l.w-index
