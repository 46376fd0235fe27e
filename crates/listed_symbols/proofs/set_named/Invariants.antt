-- `set_named` meets its contract. The loop's invariant: the columns of the symbols that the first `i` entries open are set, and `before` is the
-- number of marked cells of the rows before row `at`.
use mathlib.Core.Path.{◌≡◌}
use Prim.Native.Nat.{ℕ}
use Rattle.rows.specs.Lists.{cells_of}
use Rattle.rows.specs.Marks.{total}
use Rattle.ties.specs.Ties.{ties_in}
use Rattle.register.specs.Circuit.{Circuit, chains}
use Rattle.signatures.specs.Signature.{column}
use Rattle.signatures.specs.Symbols.{listing}
use Rattle.symbol_columns.specs.Powered.{SymbolsFrom, FlagsIn}
use Rattle.listed_symbols.specs.Heads.{HeadsIn}
use Rattle.listed_symbols.proofs.HeadLaws.{columns_up_to}
use Rattle.listed_symbols.proofs.set_named.Given as goal

abbrev pub invariant-loop-i : goal.invariant-loop-i
invariant-loop-i l = record {
  before : l.before ≡ total l.at (λ v. total 256 (cells_of l.list l.rows v));
  set : (k : Circuit) (count : ℕ) → SymbolsFrom k l.symbols.cells.slices l.symbols.cells.powers.now l.symbols.cells.spread.now l.symbols.cells.width l.symbols.numbers.now (ties_in l.symbols.ties.now count)
      → FlagsIn l.flags (ties_in l.symbols.ties.now count) → HeadsIn k l.symbols.cells.slices (cells_of l.list l.rows) (ties_in l.symbols.ties.now count)
      → l.initial.columns ≡ listing (column k l.symbols.cells.slices) (cells_of l.list l.rows) (chains k) l.symbols.cells.slices
      → l.columns ≡ columns_up_to k l.symbols.cells.slices (ties_in l.symbols.ties.now count) (cells_of l.list l.rows) l.i;
}
