-- The words of marked cells, for the register and the chains of a taken set.
--
--   taken_columns k l r      the columns of the cells that the rows r of the list l mark, for the register and the chains of a taken set k
--   taken_width k            its width, which counts as at most 64
--   taken_words k l r        the reduced list for those columns
use Rattle.std.specs.Prelude.{List, ℕ, min}
use Rattle.combinations.specs.Reduced.{reduced_list}
use Rattle.rows.specs.Lists.{cells_of}
use Rattle.rows.specs.declared.Rows.{Rows}
use Rattle.set_file.specs.Reading.{taken_circuit}
use Rattle.set_file.specs.declared.Taken.{Taken}
use Rattle.signatures.specs.Columns.{columns_below}

abbrev pub taken_columns : Taken → List ℕ → Rows → List ℕ
taken_columns k l r = columns_below (taken_circuit k) (min k.s 512) (cells_of l r) (min k.s 512)

abbrev pub taken_width : Taken → ℕ
taken_width k = min k.register.m 64

unfoldable pub taken_words : Taken → List ℕ → Rows → List ℕ
taken_words k l r = reduced_list (taken_width k) (taken_columns k l r)
