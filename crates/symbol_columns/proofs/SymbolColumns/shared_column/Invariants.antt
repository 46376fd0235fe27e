-- `shared_column` meets its contract. The loop's invariant: `sum` is the XOR for the first `h` entries, of which those before `i` have another
-- number.
use mathlib.Core.Path.{◌≡◌}
use mathlib.Core.Bool.{true}
use Prim.Native.Nat.{ℕ, ◌<◌}
use Rattle.word.specs.Span.{xor_below}
use Rattle.ties.specs.Ties.{ties_in}
use Rattle.ties.specs.Symbols.{opens}
use Rattle.register.specs.Circuit.{Circuit}
use Rattle.symbol_columns.specs.Powered.{SymbolsFrom}
use Rattle.symbol_columns.proofs.SymbolLaws.{symbol_term}
use Rattle.symbol_columns.proofs.SymbolColumns.shared_column.Given as goal

abbrev pub invariant-loop-h : goal.invariant-loop-h
invariant-loop-h l =
    (k : Circuit) (count : ℕ) → SymbolsFrom k l.self.cells.slices l.self.cells.powers.now l.self.cells.spread.now l.self.cells.width l.self.numbers.now (ties_in l.self.ties.now count)
    → l.i < count → l.j ≡ (ties_in l.self.ties.now count).symbol l.i → opens (ties_in l.self.ties.now count) l.i ≡ true
    → l.sum ≡ xor_below l.h (symbol_term k l.self.cells.slices (ties_in l.self.ties.now count) ((ties_in l.self.ties.now count).symbol l.i))
