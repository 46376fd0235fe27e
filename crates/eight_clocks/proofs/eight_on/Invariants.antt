-- `eight_on` meets its contract. The loop's invariant: the entries for the bytes below 2 ^ i are right, and `bit` is what bit i gives.
use Rattle.std.proofs.Common.{◌≤◌, [], min}
use Rattle.register.specs.Circuit.{circuit}
use Rattle.eight_clocks.proofs.EightLaws.{Made}
use Rattle.eight_clocks.proofs.eight_on.Given as goal

abbrev pub invariant-loop-i : goal.invariant-loop-i
invariant-loop-i l = 8 ≤ min l.register.m 64 → Made (circuit (min l.register.m 64) l.register.taps 0 []) l.table l.bit l.i
