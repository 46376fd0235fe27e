-- A word in the register while nothing drives or inverts it.
--
--   later k j w     the word w after j clocks of the circuit k with all cells 0 and no inversion
use Rattle.std.specs.Prelude.{ℕ, zero, suc}
use Rattle.register.specs.Circuit.{Circuit, advanced}

unfoldable pub later : Circuit → ℕ → ℕ → ℕ
later k zero w = w
later k (suc j) w = advanced k.width k.taps (later k j w)
