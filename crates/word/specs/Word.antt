-- Words: unsigned 64-bit numbers, bit 0 the lowest, and what document 01 says of one of them or of two.
--
--   digit i w       bit i of w, 0 or 1
--   low_mask m       the word with bits 0 to m - 1 set, and all 64 from m = 64 on
--   beyond m w      w has a bit at or above m
--   parity a b      document 01: the parity of the bits that a and b share, from the count of ones
--   highest_bit w    the place of w's highest bit, from the leading zeros; 0 for the word 0
--   bad_width m      document 01, 2: m isn't 1 to 64
use Rattle.std.specs.Prelude.{Bool, ◌||◌, ℕ, ◌-◌, ◌/◌, ◌%◌, ◌^◌, min, leb, ltb}
use Rattle.std.specs.Int.Bits.{bit_and}
use Rattle.std.specs.Int.Count.{ones, count_leading_zeros}

abbrev pub digit : ℕ → ℕ → ℕ
digit i w = w / 2 ^ i % 2

unfoldable pub low_mask : ℕ → ℕ
low_mask m = 2 ^ min m 64 - 1

unfoldable pub beyond : ℕ → ℕ → Bool
beyond m w = leb (2 ^ m) w

unfoldable pub parity : ℕ → ℕ → ℕ
parity a b = ones (bit_and a b) % 2

unfoldable pub highest_bit : ℕ → ℕ
highest_bit w = 63 - count_leading_zeros 64 w

unfoldable pub bad_width : ℕ → Bool
bad_width m = ltb m 1 || ltb 64 m
