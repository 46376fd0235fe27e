-- `fill` meets its contract. The loop's invariant: the columns of the symbols that the first `i` entries open stand at the list's front,
-- and `place` is behind them.
use mathlib.Core.Path.{◌≡◌}
use Prim.Native.Nat.{ℕ, ◌≤◌}
use lib.ListN.{length}
use Rattle.ties.specs.Ties.{ties_in}
use Rattle.register.specs.Circuit.{Circuit}
use Rattle.signatures.specs.Symbols.{named_columns}
use Rattle.symbol_columns.specs.Powered.{SymbolsFrom, FlagsIn}
use Rattle.symbol_columns.proofs.FillLaws.{Filled, named_part}
use Rattle.symbol_columns.proofs.SymbolColumns.fill.Given as goal

abbrev pub invariant-loop-i : goal.invariant-loop-i
invariant-loop-i l =
    (l.place ≤ length l.places)
    × (length l.places ≡ length l.initial.places)
    × ((k : Circuit) (count : ℕ) → SymbolsFrom k l.self.cells.slices l.self.cells.powers.now l.self.cells.spread.now l.self.cells.width l.self.numbers.now (ties_in l.self.ties.now count)
    → FlagsIn l.flags (ties_in l.self.ties.now count) → length (named_columns k l.self.cells.slices (ties_in l.self.ties.now count)) ≤ length l.initial.places
    → Filled (named_part k l.self.cells.slices (ties_in l.self.ties.now count)) l.initial.places l.places l.place l.i)
