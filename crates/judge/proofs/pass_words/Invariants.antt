-- `pass_words` meets its contract: what is left of the pass decides, and the words passed have given their bits.
use Rattle.judge.proofs.CallLaws.{Cancelled}
use Rattle.judge.proofs.pass_words.Given as goal

abbrev pub invariant-loop-i : goal.invariant-loop-i
invariant-loop-i l = Cancelled l.plan l.signature l.q l.tops l.bits l.i
