-- `Register::clock_row` meets its contract: the row's chains drive what they drive.
use mathlib.Core.Path.{ap, ◌∙◌}
use Prim.Native.Nat.{ℕ, min}
use lib.Bits.{bit_xor}
use Rattle.register.specs.Circuit.{advanced}
use Rattle.register.proofs.Register.clock_row.Goals as goal

pub returns : goal.returns
returns c =
    let clocked = c.clock_driven.ensures in
    let self = c.args.self in (
      clocked.0,
      clocked.1,
      clocked.2,
      clocked.3
          ∙ ap (λ (x : ℕ). bit_xor (bit_xor (advanced (min self.m 64) self.taps self.state) x) self.inversion) c.driven_word.ensures,
    )
