-- `is_bad_taps` meets its contract: bit 0 of the tap word is its remainder by 2.
use native.Mathlib.Nat.{div-one}
use Rattle.register.specs.Circuit.{bad_taps}
use Rattle.register.proofs.is_bad_taps.Goals as goal

pub returns : goal.returns
unfolding bad_taps
returns c = rw (c.is_beyond.ensures, div-one)
