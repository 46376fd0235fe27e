-- `check_slice` meets its contract: the set's numbers, then 11.
use borrow.Author.Rules.{rules}
use Rattle.slice_rows.proofs.PlaceLaws.{row_set_refused, row_past, row_there}
use Rattle.slice_rows.proofs.check_slice.Goals as goal

pub returns-in_err-check_set : goal.returns-in_err-check_set
returns-in_err-check_set c = row_set_refused _ _ c.from_residual.result _ (search rules) c.in_err-check_set.ensures

pub returns-then-is_past_slices : goal.returns-then-is_past_slices
returns-then-is_past_slices c = row_past _ _ _ c.in_ok-check_set.ensures c.is_past_slices.ensures c.if-is_past_slices.true

pub returns : goal.returns
returns c = row_there _ _ _ c.in_ok-check_set.ensures c.is_past_slices.ensures c.if-is_past_slices.false
