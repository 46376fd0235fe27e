-- Lists of columns. Document 01: "Columns are listed by slice, then by chain."
--
--   slice_columns k s u t c the columns of slice t's unknown cells among the chains below c, where u marks the unknown cells
--   columns_below k s u t   the columns of the unknown cells of the slices below t
use Rattle.std.specs.Prelude.{List, [], ◌++◌, ℕ, zero, suc}
use Rattle.rows.specs.Marks.{listed}
use Rattle.register.specs.Circuit.{Circuit, chains}
use Rattle.signatures.specs.Signature.{Response, column}

unfoldable pub slice_columns : Circuit → ℕ → Response → ℕ → ℕ → List ℕ
slice_columns k s u t zero = []
slice_columns k s u t (suc c) = slice_columns k s u t c ++ listed (u t c) (column k s t c)

unfoldable pub columns_below : Circuit → ℕ → Response → ℕ → List ℕ
columns_below k s u zero = []
columns_below k s u (suc t) = columns_below k s u t ++ slice_columns k s u t (chains k)
