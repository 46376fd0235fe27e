-- `double_entries` meets its contract. The loop's invariant: the first `j` of the new entries stand, and nothing else has changed.
use Rattle.word.specs.Doubled.{Doubled}
use Rattle.word.proofs.double_entries.Given as goal

abbrev pub invariant-loop-j : goal.invariant-loop-j
invariant-loop-j l = Doubled l.initial.table l.table l.e l.h l.j l.w
