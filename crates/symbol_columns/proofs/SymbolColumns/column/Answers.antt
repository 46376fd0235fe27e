-- `column` meets its contract: with a later entry of the same number by the loop, and else by the one cell.
use Rattle.symbol_columns.proofs.SymbolLaws.{symbol_alone}
use Rattle.symbol_columns.proofs.SymbolColumns.column.Goals as goal

pub returns-then-has_number : goal.returns-then-has_number
returns-then-has_number c k count from h o = c.shared_column.ensures k count from h (from.numbered.numbers _ h) o

pub returns : goal.returns
returns c k count from h o =
    symbol_alone _ _ _ _ from.numbered _ _ _ h o c.has_number.ensures c.if-has_number.false (c.entry.ensures k count from.powered from.within h)
