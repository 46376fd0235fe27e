-- `symbol_numbers` meets its contract. The loop's invariant: the first `i` numbers stand in their places.
use mathlib.Core.Path.{◌≡◌}
use Prim.Native.Nat.{◌+◌, ◌*◌}
use lib.ListN.{length}
use Rattle.numbers.specs.Bytes.{count_at}
use Rattle.ties.specs.Ties.{entry_bytes}
use Rattle.symbol_flags.proofs.FlagLaws.{Made}
use Rattle.symbol_flags.proofs.symbol_numbers.Given as goal

abbrev pub invariant-loop-i : goal.invariant-loop-i
invariant-loop-i l = (length l.numbers ≡ 256) × Made (λ h. count_at l.ties (entry_bytes * h + 4)) l.numbers l.i
