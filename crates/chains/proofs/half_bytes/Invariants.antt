-- `half_bytes` meets its contract. The loop's invariant: the entries of the groups before group `g` are right, and the others are 0.
use mathlib.Core.Path.{◌≡◌}
use Prim.Native.Nat.{◌*◌}
use lib.ListN.{length}
use Rattle.chains.proofs.TableLaws.{Made}
use Rattle.chains.proofs.half_bytes.Given as goal

abbrev pub invariant-loop-g : goal.invariant-loop-g
invariant-loop-g l = (length l.table ≡ 1024) × Made l.spread l.table (16 * l.g)
