-- A clock undone: a word in the register one clock earlier, or some clocks earlier, where nothing drove or inverted it. Document 01: "With
-- bit 0 set a clock loses no state." That these undo the clock (`register/specs/Circuit` advanced, `signatures/specs/Later` later) is a
-- law (proofs/UnclockLaws.antt, advanced_unclocked, later_earlier).
--
--   before_one m t      the state that a clock takes to 1, in a register of width m and tap word t
--   unclocked m t w    the state that a clock takes to w
--   earlier k j w      the word w before j clocks of the circuit k with all cells 0 and no inversion
--   EightBack k l      the list l has for each byte what it was 8 clocks earlier
use Rattle.std.specs.Prelude.{◌≡◌, List, ℕ, zero, suc, ◌-◌, ◌/◌, ◌%◌, ◌^◌, ◌<◌, get_or}
use Rattle.std.specs.Int.Bits.{bit_xor}
use Rattle.chains.specs.Driven.{chosen}
use Rattle.register.specs.Circuit.{Circuit}

unfoldable pub before_one : ℕ → ℕ → ℕ
before_one m t = bit_xor (t / 2) (2 ^ (m - 1))

unfoldable pub unclocked : ℕ → ℕ → ℕ → ℕ
unclocked m t w = bit_xor (w / 2) (chosen (w % 2) (before_one m t))

unfoldable pub earlier : Circuit → ℕ → ℕ → ℕ
earlier k zero w = w
earlier k (suc j) w = unclocked k.width k.taps (earlier k j w)

abbrev pub EightBack : Circuit → List ℕ → Type 0
EightBack k l = (x : ℕ) → x < 256 → get_or l x 0 ≡ earlier k 8 x
