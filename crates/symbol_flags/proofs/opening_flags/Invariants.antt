-- `opening_flags` meets its contract. The loop's invariant: the first `i` flags stand in their places, by the symbol numbers.
use mathlib.Core.Path.{◌≡◌}
use lib.ListN.{length}
use Rattle.symbol_flags.proofs.FlagLaws.{Made, opening_by}
use Rattle.symbol_flags.proofs.opening_flags.Given as goal

abbrev pub invariant-loop-i : goal.invariant-loop-i
invariant-loop-i l = (length l.flags ≡ 256) × Made (opening_by l.numbers) l.flags l.i
