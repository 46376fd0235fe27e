-- Which of the two ways to make columns is taken. Both give the same columns, so nothing that a caller is promised rests on it.
--
--   ones_pay k n s   k columns of n chains in s slices take less made one by one than with all chains' words advanced together
use Rattle.std.specs.Prelude.{Bool, ℕ, ◌+◌, ◌*◌, min, ltb}

unfoldable pub ones_pay : ℕ → ℕ → ℕ → Bool
ones_pay k n s = ltb (128 * k + 4 * min s 512 + 256) (min s 512 * min n 256)
