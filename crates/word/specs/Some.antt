-- Tests over a range and over a list.
--
--   any_below n f    f holds at some number below n
--   any_of f l       f holds of some element of l
--   all_of f l       f holds of every element of l
use Rattle.std.specs.Prelude.{Bool, true, false, ◌||◌, ◌&&◌, List, [], ◌∷◌, ℕ, zero, suc}

unfoldable pub any_below : ℕ → (ℕ → Bool) → Bool
any_below zero f = false
any_below (suc n) f = any_below n f || f n

unfoldable pub any_of : {A : Type 0} → (A → Bool) → List A → Bool
any_of f [] = false
any_of f (x ∷ l) = f x || any_of f l

unfoldable pub all_of : {A : Type 0} → (A → Bool) → List A → Bool
all_of f [] = true
all_of f (x ∷ l) = f x && all_of f l
