-- `is_bad_word_list` meets its contract: what is left of the pass decides.
use Rattle.plan_file.proofs.WordPlaces.{PlanPassed}
use Rattle.plan_file.proofs.is_bad_word_list.Given as goal

abbrev pub invariant-loop-i : goal.invariant-loop-i
invariant-loop-i l = PlanPassed l.plan l.q l.seen l.i
