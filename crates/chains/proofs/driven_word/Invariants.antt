-- `driven_word` meets its contract. The loop's invariant: `drive` is what the chains of the words passed drive, 64 to a turn.
use mathlib.Core.Path.{◌≡◌}
use Prim.Native.Nat.{◌*◌}
use lib.ListN.{length}
use Rattle.rows.specs.Row.{cell}
use Rattle.chains.specs.Driven.{driven}
use Rattle.chains.proofs.driven_word.Given as goal

abbrev pub invariant-loop-i : goal.invariant-loop-i
invariant-loop-i l = l.drive ≡ driven l.spread (cell l.row) (64 * length l.yielded)
