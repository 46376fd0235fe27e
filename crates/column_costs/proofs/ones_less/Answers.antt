-- `ones_less` meets its contract.
use mathlib.Core.Path.{◌∙◌}
use borrow.Author.Tests.{le-ltb}
use Rattle.column_costs.proofs.CostLaws.{many_not_by_ones, ones_tested}
use Rattle.column_costs.proofs.ones_less.Goals as goal

pub returns-then-count-lt-MANY : goal.returns-then-count-lt-MANY
returns-then-count-lt-MANY c = ones_tested _ _ _ _ _ _ c.ones_cost.ensures c.sweep_cost.ensures

pub returns-else-count-lt-MANY : goal.returns-else-count-lt-MANY
returns-else-count-lt-MANY c = le-ltb _ _ c.if-count-lt-MANY.false ∙ many_not_by_ones _ _ _ _ c.if-count-lt-MANY.false
