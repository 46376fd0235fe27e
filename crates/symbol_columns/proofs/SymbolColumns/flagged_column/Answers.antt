-- `flagged_column` meets its contract.
use Rattle.symbol_columns.proofs.FillLaws.{flagged_none, flagged_one}
use Rattle.symbol_columns.proofs.SymbolColumns.flagged_column.Goals as goal

pub returns-then-flagged-eq0 : goal.returns-then-flagged-eq0
returns-then-flagged-eq0 c k count from h ef = flagged_none _ _ _ _ ef c.if-flagged-eq0.true

pub returns : goal.returns
returns c k count from h ef = flagged_one _ _ _ _ _ ef c.if-flagged-eq0.false (c.column.ensures k count from h)
