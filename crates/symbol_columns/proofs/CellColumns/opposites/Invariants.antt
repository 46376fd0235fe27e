-- `opposites` meets its contract. The loop's invariant: `sum` is the XOR for the first `i` entries.
use mathlib.Core.Path.{◌≡◌}
use lib.ListN.{length}
use Rattle.word.specs.Span.{xor_below}
use Rattle.ties.specs.Ties.{ties_in}
use Rattle.ties.specs.Symbols.{Within}
use Rattle.register.specs.Circuit.{Circuit}
use Rattle.symbol_columns.specs.Powered.{Powered}
use Rattle.symbol_columns.proofs.SymbolLaws.{side_term}
use Rattle.symbol_columns.proofs.CellColumns.opposites.Given as goal

abbrev pub invariant-loop-i : goal.invariant-loop-i
invariant-loop-i l =
    (k : Circuit) → Powered k l.self.slices l.self.powers.now l.self.spread.now l.self.width
    → Within l.self.slices (length l.self.spread.now) (ties_in l.ties l.count) → l.sum ≡ xor_below l.i (side_term k l.self.slices (ties_in l.ties l.count))
