-- Lists one after the other.
--
--   joined f n      the lists f 0, f 1, .. up to f (n - 1), one after the other
use Rattle.std.specs.Prelude.{List, [], ◌++◌, ℕ, zero, suc}

unfoldable pub joined : (ℕ → List ℕ) → ℕ → List ℕ
joined f zero = []
joined f (suc n) = joined f n ++ f n
