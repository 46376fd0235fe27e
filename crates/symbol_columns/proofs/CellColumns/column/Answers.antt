-- `column` meets its contract: the powers of so many clocks.
use native.Mathlib.Omega.{arith}
use Rattle.symbol_columns.proofs.SymbolLaws.{power_column}
use Rattle.symbol_columns.proofs.CellColumns.column.Goals as goal

pub returns : goal.returns
returns c k p ht hc =
    power_column k _ _ _ _ p _ _ _ _ _ _ ht hc (omega (arith, c.saturating_add.ensures, p.width, p.narrow, p.slices)) c.in-Some.ensures.lookup.0.2
    c.word_at.ensures c.from_powers.ensures
