-- `mark_place` meets its contract: the mark row stands behind the value row.
use native.Mathlib.Omega.{arith}
use borrow.Author.Rules.{rules}
use Rattle.slice_rows.proofs.PlaceLaws.{mark_declined, mark_at_lem, value_inside}
use Rattle.slice_rows.proofs.mark_place.Goals as goal

pub returns-in_err-values : goal.returns-in_err-values
returns-in_err-values c = mark_declined _ _ c.from_residual.result _ (search rules) c.in_err-values.ensures

pub overflow_add-result : goal.overflow_add-result
overflow_add-result c = omega (arith, value_inside _ _ _ _ c.in_ok-values.ensures)

pub returns : goal.returns
returns c = mark_at_lem _ _ _ _ c.in_ok-values.ensures
