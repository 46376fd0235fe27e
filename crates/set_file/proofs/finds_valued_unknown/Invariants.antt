-- `finds_valued_unknown` meets its contract: in the slices passed no value row shares a bit with its mark row.
use Rattle.set_file.proofs.CodeLaws.{Unshared}
use Rattle.set_file.proofs.finds_valued_unknown.Given as goal

abbrev pub invariant-loop-t : goal.invariant-loop-t
invariant-loop-t l = Unshared l.set l._t l.at
