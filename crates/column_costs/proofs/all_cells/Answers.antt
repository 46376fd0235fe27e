-- `all_cells` meets its contract.
use mathlib.Core.Path.{ap₂}
use Prim.Native.Nat.{ℕ, ◌*◌, ◌≤◌}
use native.Mathlib.Omega.{arith}
use Rattle.column_costs.proofs.CostLaws.{cells_most}
use Rattle.column_costs.proofs.all_cells.Goals as goal
use Rattle.column_costs.proofs.all_cells.Goals.{After-chain_limit-chains}

most : (c : After-chain_limit-chains) → c.slice_limit-slices.result * c.chain_limit-chains.result ≤ 131072
most c = cells_most _ _ (omega (arith, c.slice_limit-slices.ensures)) (omega (arith, c.chain_limit-chains.ensures))

pub overflow_mul-result : goal.overflow_mul-result
overflow_mul-result c = record { fits = omega (arith, most (goal.at.overflow_mul-result c).After-chain_limit-chains) }

pub returns : goal.returns
returns c = (ap₂ (λ (x y : ℕ). x * y) c.slice_limit-slices.ensures c.chain_limit-chains.ensures, most (goal.at.returns c).After-chain_limit-chains)
