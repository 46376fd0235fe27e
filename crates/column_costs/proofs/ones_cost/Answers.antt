-- `ones_cost` meets its contract.
use mathlib.Core.Path.{ap₂}
use Prim.Native.Nat.{ℕ, ◌+◌, ◌*◌, ◌≤◌}
use native.Mathlib.Omega.{arith}
use Rattle.column_costs.proofs.CostLaws.{ones_most}
use Rattle.column_costs.proofs.ones_cost.Goals as goal
use Rattle.column_costs.proofs.ones_cost.Goals.{After-width_limit-width}

most : (c : After-width_limit-width) → (c.width_limit-width.result + 16) * c.args.count ≤ 5242880
most c = ones_most _ _ (omega (arith, c.width_limit-width.ensures)) c.requires

pub overflow_mul-result : goal.overflow_mul-result
overflow_mul-result c = record { fits = omega (arith, most (goal.at.overflow_mul-result c).After-width_limit-width) }

pub overflow_add-result-2 : goal.overflow_add-result-2
overflow_add-result-2 c = record { fits = omega (arith, most (goal.at.overflow_add-result-2 c).After-width_limit-width) }

pub overflow_add-result-3 : goal.overflow_add-result-3
overflow_add-result-3 c = record { fits = omega (arith, most (goal.at.overflow_add-result-3 c).After-width_limit-width) }

pub returns : goal.returns
returns c = ap₂ (λ (x y : ℕ). (x + 16) * c.args.count + 4 * y + 256) c.width_limit-width.ensures c.slice_limit-slices.ensures
