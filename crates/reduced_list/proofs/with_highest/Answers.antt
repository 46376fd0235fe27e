-- `with_highest` meets its contract.
use Rattle.reduced_list.proofs.PassLaws.{with_top_bit, highest_small}
use Rattle.reduced_list.proofs.with_highest.Goals as goal

pub overflow_shl-result : goal.overflow_shl-result
overflow_shl-result c = highest_small _ _ c.highest_bit.ensures

pub returns : goal.returns
returns c = with_top_bit _ _ _ c.highest_bit.ensures
