-- Places that hold 0.
--
--   zeros n       n of them
--   filled ws n   the words ws, and zeros behind them up to n places
use Rattle.std.specs.Prelude.{List, ◌++◌, ℕ, ◌-◌, length, replicate}

abbrev pub zeros : ℕ → List ℕ
zeros n = replicate n 0

abbrev pub filled : List ℕ → ℕ → List ℕ
filled ws n = ws ++ zeros (n - length ws)
