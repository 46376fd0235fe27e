-- `ones_pay` meets its contract.
use native.Mathlib.Omega.{arith}
use Rattle.sparse_columns.proofs.SparseLaws.{cells_most, many_sweep, few_pay}
use Rattle.sparse_columns.proofs.ones_pay.Goals as goal

pub returns-then-count-ge1024 : goal.returns-then-count-ge1024
returns-then-count-ge1024 c = many_sweep _ _ _ c.if-count-ge1024.true

pub overflow_mul-result-3 : goal.overflow_mul-result-3
overflow_mul-result-3 c = record { fits = omega (arith, cells_most c.slice_limit-slices.result c.chain_limit-chains.result (omega (arith, c.slice_limit-slices.ensures)) (omega (arith, c.chain_limit-chains.ensures))) }

pub returns : goal.returns
returns c = few_pay _ _ _ _ _ c.slice_limit-slices.ensures c.chain_limit-chains.ensures
