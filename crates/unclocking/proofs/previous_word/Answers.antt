-- `previous_word` meets its contract.
use mathlib.Core.Path.{ap}
use Prim.Native.Nat.{◌/◌}
use lib.Bits.{bit_xor}
use Rattle.unclocking.proofs.previous_word.Goals as goal

pub returns : goal.returns
returns c = ap (bit_xor (c.args.w / 2)) c.chosen_word.ensures
