-- `fill_table` meets its contract. The loop's invariant: the entries of the first `b` bytes are right.
use Rattle.byte_tables.proofs.TableLaws.{Right}
use Rattle.byte_tables.proofs.fill_table.Given as goal

abbrev pub invariant-loop-b : goal.invariant-loop-b
invariant-loop-b l = Right l.words l.table l.b
