-- `of` meets its contract: the powers and spread words of a taken set.
use mathlib.Core.Path.{refl}
use borrow.Author.Rules.{rules}
use Rattle.symbol_columns.proofs.FillLaws.{taken_powered}
use Rattle.symbol_columns.proofs.CellColumns.of.Goals as goal

pub returns-clause-cells : goal.returns-clause-cells
returns-clause-cells c many right good =
    taken_powered c.args.taken.now c.width_limit.result c.chain_limit.result c.slice_limit.result c.args.taken.now.spread c.args.powers.now
    c.width_limit.ensures c.chain_limit.ensures c.slice_limit.ensures (refl, search rules) many right good
