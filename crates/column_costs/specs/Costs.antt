-- What the three ways to make columns cost, where one word advanced by one clock costs 1, and which costs least. All ways give the same columns, so
-- nothing that a caller is promised rests on it. For k columns of a register of width m, with n chains and s slices:
--
--   cells n s             the cells
--   sweep_cost n s         all the chains' words advanced by one clock for each slice
--   eights_cost k n s      .. by 8 clocks for every eighth slice, and the words of marked cells by the clocks between
--   ones_cost m k s        each column by itself, by the powers of the register
--   eights_least m k n s   the second way costs less than the two others
--   ones_less m k n s      the third way costs less than the first
use Rattle.std.specs.Prelude.{Bool, ◌&&◌, ℕ, ◌+◌, ◌*◌, ◌/◌, min, ltb}

abbrev pub cells : ℕ → ℕ → ℕ
cells n s = min s 512 * min n 256

abbrev pub sweep_cost : ℕ → ℕ → ℕ
sweep_cost n s = cells n s + 16 * min s 512

abbrev pub eights_cost : ℕ → ℕ → ℕ → ℕ
eights_cost k n s = cells n s / 5 + 20 * min s 512 + 2 * k + 128

abbrev pub ones_cost : ℕ → ℕ → ℕ → ℕ
ones_cost m k s = (min m 64 + 16) * k + 4 * min s 512 + 256

unfoldable pub eights_least : ℕ → ℕ → ℕ → ℕ → Bool
eights_least m k n s = ltb (eights_cost k n s) (sweep_cost n s) && ltb (eights_cost k n s) (ones_cost m k s)

unfoldable pub ones_less : ℕ → ℕ → ℕ → ℕ → Bool
ones_less m k n s = ltb (ones_cost m k s) (sweep_cost n s)
