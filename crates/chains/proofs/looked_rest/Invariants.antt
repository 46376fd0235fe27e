-- `looked_rest` meets its contract. The loop's invariant: with what the bytes before `from` drive, `drive` is what those before `i` do.
use mathlib.Core.Path.{◌≡◌}
use lib.Bits.{bit_xor}
use Rattle.chains.specs.Table.{looked_up}
use Rattle.chains.proofs.looked_rest.Given as goal

abbrev pub invariant-loop-i : goal.invariant-loop-i
invariant-loop-i l = bit_xor (looked_up l.table l.row l.from) l.drive ≡ looked_up l.table l.row l.i
