-- A word from the powers of the register.
--
--   from_powers ps w   the XOR of the words of ps whose bit in the word w is 1
use Rattle.std.specs.Prelude.{List, ℕ, length}
use Rattle.rows.specs.Marks.{bits}
use Rattle.chains.specs.Driven.{driven}

unfoldable pub from_powers : List ℕ → ℕ → ℕ
from_powers ps w = driven ps (bits w) (length ps)
