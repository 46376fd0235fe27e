-- The same of a set file, and the cells of a record.
--
--   given set           what the set file gives
--   Known set t c       document 01: the cell of slice t and chain c is known
--   Filling set x       document 01: the response x is a filling of the set
--   Explained set y     document 01: the signature y is explained
--   columns_of set       document 02: the columns of the set's symbols
--   symbols_of set       document 02: the number of its symbols, free and named
--   named_of set         .. of named ones
--   unknowns_of set      document 01: the number of unknown cells
--   zero_signature set   document 02: the signature for all symbols 0
--   Revised old new     the set `new` is `old` with other values
--   record_cells n r     the cells of a record r of n chains. Document 01: "Record: s value rows and nothing else"
use Rattle.std.specs.Prelude.{List, ℕ}
use Rattle.rows.specs.Row.{cell}
use Rattle.rows.specs.Lists.{list_row}
use Rattle.set_layout.specs.Layout.{circuit_of, slices_of, values, marks, ties_of}
use Rattle.signatures.specs.Signature.{Response}
use Rattle.signatures.specs.Given.{Given, KnownCell, FillingOf, ExplainedBy, columns_for, symbols_for, named_for, unknowns_for, zero_signature_for, RevisedFrom}

abbrev pub given : List ℕ → Given
given set = record { wiring = circuit_of set; slices = slices_of set; values = values set; marks = marks set; ties = ties_of set }

abbrev pub Known : List ℕ → ℕ → ℕ → Type 0
Known set = KnownCell (given set)

abbrev pub Filling : List ℕ → Response → Type 0
Filling set = FillingOf (given set)

abbrev pub Explained : List ℕ → ℕ → Type 0
Explained set = ExplainedBy (given set)

unfoldable pub columns_of : List ℕ → List ℕ
columns_of set = columns_for (given set)

unfoldable pub symbols_of : List ℕ → ℕ
symbols_of set = symbols_for (given set)

unfoldable pub named_of : List ℕ → ℕ
named_of set = named_for (given set)

unfoldable pub unknowns_of : List ℕ → ℕ
unknowns_of set = unknowns_for (given set)

unfoldable pub zero_signature : List ℕ → ℕ
zero_signature set = zero_signature_for (given set)

abbrev pub Revised : List ℕ → List ℕ → Type 0
Revised old new = RevisedFrom (given old) (given new)

abbrev pub record_cells : ℕ → List ℕ → Response
record_cells n r t = cell (list_row n r t)
