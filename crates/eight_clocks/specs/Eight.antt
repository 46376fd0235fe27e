-- Up to 8 clocks at once, by a table. A clock with all cells 0 is linear, and a word is its highest bits and the others: these only move up,
-- and what the highest, which leave the width, give back is looked up. One table is right for 1 to 8 clocks. That this is the clock
-- (`signatures/specs/Later` later) is a law (proofs/EightLaws.antt, looked_later).
--
--   EightOn k l        the list l has for each byte what it is 8 clocks later, where the byte stands at the top of the circuit k's register
--   looked_on m l j w   the word w moved up j places in the width m, with the entry of l for the j bits that leave it XORed in; w for j 0
use Rattle.std.specs.Prelude.{◌≡◌, List, ℕ, zero, suc, ◌-◌, ◌*◌, ◌/◌, ◌%◌, ◌^◌, ◌<◌, get_or}
use Rattle.std.specs.Int.Bits.{bit_xor}
use Rattle.register.specs.Circuit.{Circuit}
use Rattle.signatures.specs.Later.{later}

abbrev pub EightOn : Circuit → List ℕ → Type 0
EightOn k l = (x : ℕ) → x < 256 → get_or l x 0 ≡ later k 8 (x * 2 ^ (k.width - 8))

unfoldable pub looked_on : ℕ → List ℕ → ℕ → ℕ → ℕ
looked_on m l zero w = w
looked_on m l (suc i) w = bit_xor (w * 2 ^ suc i % 2 ^ m) (get_or l (w / 2 ^ (m - suc i) % 2 ^ suc i) 0)
