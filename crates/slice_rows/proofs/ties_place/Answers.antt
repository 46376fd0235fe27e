-- `ties_place` meets its contract.
use borrow.Author.Rules.{rules}
use Rattle.slice_rows.proofs.PlaceLaws.{ties_declined, ties_named}
use Rattle.slice_rows.proofs.ties_place.Goals as goal

pub returns-in_err-check_set : goal.returns-in_err-check_set
returns-in_err-check_set c = ties_declined _ c.from_residual.result _ (search rules) c.in_err-check_set.ensures

pub returns : goal.returns
returns c =
    ties_named _ _ _ _ _ c.in_ok-check_set.ensures c.chain_count-n.ensures c.slice_count-s.ensures c.tie_count-entries.ensures c.ties_at.ensures
