-- `share_a_bit` meets its contract: the OR of what the bytes passed share.
use Rattle.rows.proofs.RowLaws.{Shared}
use Rattle.rows.proofs.share_a_bit.Given as goal

abbrev pub invariant-loop-i : goal.invariant-loop-i
invariant-loop-i l = Shared l.values l.marks l.i l.shared
