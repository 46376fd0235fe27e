-- `put_word_lines` meets its contract: the lines put, and those still to be put.
use Rattle.plan_lines.proofs.PieceLaws.{Lining}
use Rattle.plan_lines.proofs.put_word_lines.Given as goal

abbrev pub invariant-loop-i : goal.invariant-loop-i
invariant-loop-i l = Lining l.initial.out l.at l.words l.expected l.out l.place l.bits l.i
