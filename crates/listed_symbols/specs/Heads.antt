-- Where the columns of named symbols stand in a list of columns. Document 02, No. 7: "A symbol's column is the XOR of its cells' columns, listed
-- where its first cell was".
--
--   HeadsIn k s u e   the symbols of e have columns in the circuit k: its spread words are good, and the cells of e lie in s slices and k's
--                     chains; among these u marks the first cell of each symbol, and no cell from the last chain on to 256
use Rattle.std.specs.Prelude.{◌≡◌, false, ℕ, ◌<◌}
use Rattle.rows.specs.Row.{Cells}
use Rattle.rows.specs.Marks.{total}
use Rattle.ties.specs.Ties.{Ties}
use Rattle.ties.specs.Symbols.{flag, Within}
use Rattle.chains.specs.Driven.{bad_spread}
use Rattle.register.specs.Circuit.{Circuit, chains}

pub record HeadsIn (k : Circuit) (s : ℕ) (u : ℕ → Cells) (e : Ties) : Type 0 where
  pub good : bad_spread k.width k.spread ≡ false
  pub within : Within s (chains k) e
  pub heads : (i : ℕ) → i < e.count → u (e.slice i) (e.chain i) ≡ flag e i
  pub ends : (t : ℕ) → t < s → total 256 (u t) ≡ total (chains k) (u t)
