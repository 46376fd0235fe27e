-- `drop_pivot` meets its contract: the words before place i are done, and those from i on are as they were.
use Rattle.column_step.proofs.PivotLaws.{Dropping}
use Rattle.column_step.proofs.drop_pivot.Given as goal

abbrev pub invariant-loop-i : goal.invariant-loop-i
invariant-loop-i l = Dropping l.column l.at l.initial.words l.words l.i
