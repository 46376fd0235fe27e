-- `side_columns` meets its contract: where no cell takes the opposite the XOR of none, and else by the powers of the taken set.
use borrow.Author.Rules.{rules}
use Rattle.ties.specs.Ties.{ties_in}
use Rattle.symbol_columns.proofs.SymbolLaws.{opposites_none}
use Rattle.symbol_columns.proofs.FillLaws.{taken_within}
use Rattle.symbol_columns.proofs.side_columns.Goals as goal

pub returns-then-not-has_opposite : goal.returns-then-not-has_opposite
returns-then-not-has_opposite c inside good = opposites_none _ _ (ties_in _ _) _ c.has_opposite.ensures c.if-not-has_opposite.true

pub returns : goal.returns
returns c inside good =
    let cells = c.of.ensures in
    let powered = cells.cells (search rules) (λ i h. c.powers-powers.ensures i h h) good in
    let within = taken_within c.args.taken _ _ cells.slices cells.spread _ inside in
    search (rules, powered, within)
