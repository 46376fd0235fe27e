-- The greatest number of a range at which a test holds.
--
--   greatest n f    the greatest number up to n at which f holds; 0 where it holds at none
use Rattle.std.specs.Prelude.{Bool, cond, ℕ, zero, suc}

unfoldable pub greatest : ℕ → (ℕ → Bool) → ℕ
greatest zero f = 0
greatest (suc n) f = cond (f (suc n)) (suc n) (greatest n f)
