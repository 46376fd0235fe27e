-- `powers` meets its contract. The loop's invariant: the entries before the index are the powers, and `power` is the next.
use Rattle.std.proofs.Common.{◌≡◌, [], ℕ, min, ◌<◌, get_or}
use Rattle.register.specs.Circuit.{circuit}
use Rattle.signatures.specs.Later.{later}
use Rattle.powers.proofs.powers.Given as goal

abbrev pub invariant-loop-entry : goal.invariant-loop-entry
invariant-loop-entry l = record {
  powers : (k : ℕ) → k < l.entry-index → get_or l.entry-items k 0 ≡ later (circuit (min l.register.m 64) l.register.taps 0 []) k 1;
  next : l.power ≡ later (circuit (min l.register.m 64) l.register.taps 0 []) l.entry-index 1;
}
