-- `has_bad_spread` meets its contract: what `none` and `seen` say of the words before `c`, and the words from `c` on decide it.
use Rattle.set_file.proofs.CodeLaws.{Folded}
use Rattle.set_file.proofs.has_bad_spread.Given as goal

abbrev pub invariant-loop-c : goal.invariant-loop-c
invariant-loop-c l = Folded l.set l.m l.n l.seen l.none l.c
