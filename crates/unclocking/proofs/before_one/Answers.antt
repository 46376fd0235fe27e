-- `before_one` meets its contract.
use mathlib.Core.Path.{ap}
use Prim.Native.Nat.{◌/◌}
use lib.Bits.{bit_xor}
use Rattle.unclocking.specs.Unclocked.{before_one}
use Rattle.unclocking.proofs.before_one.Goals as goal

pub returns : goal.returns
unfolding before_one
returns c = ap (bit_xor (c.args.register.taps / 2)) c.top_bit.ensures
