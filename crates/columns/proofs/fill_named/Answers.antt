-- `fill_named` meets its contract: the cells' own columns fill the list, and then the symbols' are set.
use Rattle.rows.specs.Lists.{cells_of}
use Rattle.set_file.specs.Reading.{taken_circuit}
use Rattle.columns.proofs.FirstLaws.{filled_columns}
use Rattle.columns.proofs.fill_named.Goals as goal

pub returns : goal.returns
returns c heads flagged long =
    let args = c.args in
    c.set_symbols.ensures heads flagged
    (filled_columns (taken_circuit args.taken) _ (cells_of args.list.now args.rows) args.columns.now _ long c.fill_columns.ensures)
