-- The columns of symbols. Document 02, No. 7: "each unnamed unknown is a free symbol"; "A symbol's column is the XOR of its cells' columns,
-- listed where its first cell was".
--
--   symbol_column k s e j      the column of symbol number j: the XOR of the columns of the cells that entries of e name with it
--   named_columns k s e        the columns of the named symbols, in the order of their first cells
--   side_columns k s e         the XOR of the columns of the cells that take the opposite of their symbol
--   source_column k s e t c o  the column of the symbol of the entry o, where one names the cell, and else the cell's own
--   column_at k s e t c        the column that is listed at the cell of slice t and chain c: its symbol's, or its own where it is free
--   listing f u n t           f's words of the cells that u marks in the first t slices of n chains, by slice and then by chain
--   symbol_columns k s u e     the columns of all symbols, where u marks the unknown cells
--   symbol_count s n u e       the number of symbols, free and named
use Rattle.std.specs.Prelude.{cond, List, [], ◌++◌, ℕ, zero, suc, eqb}
use Rattle.std.proofs.Math.Option.{Option, none, some}
use Rattle.word.specs.Span.{xor_below}
use Rattle.numbers.specs.Joined.{joined}
use Rattle.rows.specs.Row.{Cells}
use Rattle.rows.specs.Marks.{listed, total}
use Rattle.ties.specs.Ties.{Ties}
use Rattle.ties.specs.Symbols.{flag, naming, first_marks}
use Rattle.chains.specs.Driven.{chosen}
use Rattle.register.specs.Circuit.{Circuit, chains}
use Rattle.signatures.specs.Signature.{Response, column}

unfoldable pub symbol_column : Circuit → ℕ → Ties → ℕ → ℕ
symbol_column k s e j = xor_below e.count (λ i. cond {A = ℕ} (eqb (e.symbol i) j) (column k s (e.slice i) (e.chain i)) 0)

unfoldable pub named_columns : Circuit → ℕ → Ties → List ℕ
named_columns k s e = joined (λ i. listed (flag e i) (symbol_column k s e (e.symbol i))) e.count

unfoldable pub side_columns : Circuit → ℕ → Ties → ℕ
side_columns k s e = xor_below e.count (λ i. chosen (e.side i) (column k s (e.slice i) (e.chain i)))

abbrev pub source_column : Circuit → ℕ → Ties → ℕ → ℕ → Option ℕ → ℕ
source_column k s e t c none = column k s t c
source_column k s e t c (some i) = symbol_column k s e (e.symbol i)

unfoldable pub column_at : Circuit → ℕ → Ties → ℕ → ℕ → ℕ
column_at k s e t c = source_column k s e t c (naming e t c)

unfoldable pub listing : (ℕ → ℕ → ℕ) → (ℕ → Cells) → ℕ → ℕ → List ℕ
listing f u n zero = []
listing f u n (suc t) = listing f u n t ++ joined (λ c. listed (u t c) (f t c)) n

abbrev pub symbol_columns : Circuit → ℕ → Response → Ties → List ℕ
symbol_columns k s u e = listing (column_at k s e) (first_marks u e) (chains k) s

abbrev pub symbol_count : ℕ → ℕ → Response → Ties → ℕ
symbol_count s n u e = total s (λ t. total n (first_marks u e t))
