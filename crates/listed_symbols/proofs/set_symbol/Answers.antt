-- `set_symbol` meets its contract: the flag is 0, the list ends before the place, or the column is written.
use Rattle.ties.specs.Ties.{ties_in}
use Rattle.signatures.specs.Symbols.{symbol_column}
use Rattle.listed_symbols.proofs.BeforeLaws.{place_of}
use Rattle.listed_symbols.proofs.HeadLaws.{set_none, set_past, set_one}
use Rattle.listed_symbols.proofs.set_symbol.Goals as goal

pub returns-then-is_later : goal.returns-then-is_later
returns-then-is_later c k count from h ef = set_none _ _ _ _ _ ef c.if-is_later.true

pub returns-then-columns-place : goal.returns-then-columns-place
returns-then-columns-place c k count from h ef =
    let args = c.args in
    let place = place_of args.row.now _ _ _ _ c.tie_chain.ensures c.cells_before.ensures.0 in
    set_past (ties_in args.symbols.ties.now count) args.i _ ef c.if-is_later.false args.columns.now _ _ _ place c.if-columns-place.true

pub returns : goal.returns
returns c k count from h ef =
    let args = c.args in
    let place = place_of args.row.now _ _ _ _ c.tie_chain.ensures c.cells_before.ensures.0 in
    set_one (ties_in args.symbols.ties.now count) args.i _ ef c.if-is_later.false args.columns.now _ _ _
    (symbol_column k args.symbols.cells.slices (ties_in args.symbols.ties.now count) ((ties_in args.symbols.ties.now count).symbol args.i)) place (c.column.ensures k count from h)
