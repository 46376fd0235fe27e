-- `tie_count` meets its contract.
use Rattle.set_layout.proofs.LayoutLaws.{tie_count_of_lem}
use Rattle.set_layout.proofs.tie_count.Goals as goal

pub returns : goal.returns
returns c =
    tie_count_of_lem _ _ _ c.chain_count-n.ensures c.slice_count-s.ensures _ c.tie_count_of.ensures
