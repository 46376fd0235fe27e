-- `write_bytes` meets its contract: the bytes from `i` on are left to be written.
use Rattle.written_numbers.proofs.BytesLaws.{BytesLeft}
use Rattle.written_numbers.proofs.write_bytes.Given as goal

abbrev pub invariant-loop-i : goal.invariant-loop-i
invariant-loop-i l = BytesLeft l.initial.out l.out l.bytes l.at l.i
