-- `looked_up` meets its contract. The loop's invariant: `drive` is the XOR of the entries for the first `i` times eight bytes.
use mathlib.Core.Path.{◌≡◌}
use Prim.Native.Nat.{◌*◌}
use Rattle.chains.specs.Table.{looked_up}
use Rattle.chains.proofs.looked_up.Given as goal

abbrev pub invariant-loop-i : goal.invariant-loop-i
invariant-loop-i l = l.drive ≡ looked_up l.table l.row (8 * l.i)
