-- `looked_up` meets its contract. The loop's invariant: `all` is the XOR of the entries for the first `b` bytes.
use mathlib.Core.Path.{◌≡◌}
use Rattle.byte_tables.specs.Table.{looked}
use Rattle.byte_tables.proofs.looked_up.Given as goal

abbrev pub invariant-loop-b : goal.invariant-loop-b
invariant-loop-b l = l.all ≡ looked l.table l.x l.b
