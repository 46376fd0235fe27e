-- Responses, signatures and columns. Document 01: "A response has s slices, one cell per chain in each"; "The state after
-- slice s − 1 is the signature"; "The column of an unknown cell is the signature of the response in which that cell is 1 and
-- all others 0." Document 02, No. 1, of the inversion word: "columns are still made without it."
--
--   Response         the cells of a response: that of slice t and chain c is 0 or 1
--   runs k x t       the register's state after the first t slices of the response x, from zero
--   signature k x s  document 01: the signature of a response of s slices
--   only_cell t c     the response in which the cell of slice t and chain c is 1 and all others 0
--   column k s t c   document 01: the column of that cell, from the register without inversion
use Rattle.std.specs.Prelude.{cond, ◌&&◌, ℕ, zero, suc, eqb}
use Rattle.rows.specs.Row.{Cells}
use Rattle.register.specs.Circuit.{Circuit, uninverted, clocked}

abbrev pub Response : Type 0
Response = ℕ → Cells

unfoldable pub runs : Circuit → Response → ℕ → ℕ
runs k x zero = 0
runs k x (suc t) = clocked k (x t) (runs k x t)

abbrev pub signature : Circuit → Response → ℕ → ℕ
signature k x s = runs k x s

abbrev pub only_cell : ℕ → ℕ → Response
only_cell t c = λ u d. cond (eqb u t && eqb d c) 1 0

unfoldable pub column : Circuit → ℕ → ℕ → ℕ → ℕ
column k s t c = signature (uninverted k) (only_cell t c) s
