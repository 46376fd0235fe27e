-- `value_place` meets its contract.
use borrow.Author.Rules.{rules}
use Rattle.slice_rows.proofs.PlaceLaws.{value_declined, slice_small, value_named}
use Rattle.slice_rows.proofs.value_place.Goals as goal

pub returns-in_err-check_slice : goal.returns-in_err-check_slice
returns-in_err-check_slice c = value_declined _ _ c.from_residual.result _ (search rules) c.in_err-check_slice.ensures

pub overflow_cast-slice : goal.overflow_cast-slice
overflow_cast-slice c = record { fits = slice_small c.args.set.now _ c.in_ok-check_slice.ensures }

pub returns : goal.returns
returns c = value_named _ _ _ _ _ c.in_ok-check_slice.ensures c.chain_count-n.ensures c.value_at.ensures c.row_bytes.ensures
