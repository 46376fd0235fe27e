-- `sign_by_half_bytes` meets its contract. The loop's invariant: the register holds the state after the first `t` rows.
use Rattle.rows.specs.Lists.{cells_of}
use Rattle.slice_signing.proofs.RunLaws.{Running}
use Rattle.slice_signing.proofs.sign_by_half_bytes.Given as goal

abbrev pub invariant-loop-t : goal.invariant-loop-t
invariant-loop-t l =
    Running l.initial.held.m l.initial.held.taps l.initial.held.inversion l.spread (cells_of l.list l.rows) l.held.m l.held.taps l.held.inversion l.held.state l.t
