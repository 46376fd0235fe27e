-- `set_symbols` meets its contract: the lists that it lends are those of the taken set and its ties.
use borrow.Author.Rules.{rules}
use Rattle.symbol_columns.proofs.FillLaws.{taken_symbols}
use Rattle.listed_symbols.proofs.set_symbols.Goals as goal

pub returns : goal.returns
returns c heads flagged =
    let args = c.args in
    let cells = c.of-cells.ensures in
    let numbers = c.symbol_numbers-numbers in
    let from =
    taken_symbols args.taken _ _ cells.slices cells.spread _ _ (cells.cells (search rules) (λ i h. c.powers-powers.ensures i h h) heads.good)
    args.ties.now args.count c.tie_limit.result numbers.result c.tie_limit.ensures (search rules) numbers.ensures heads.within in
    search (rules, from)
