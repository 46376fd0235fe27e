-- `tie_bytes` meets its contract.
use Rattle.set_layout.proofs.LayoutLaws.{tie_bytes_of}
use Rattle.set_layout.proofs.tie_bytes.Goals as goal

pub returns : goal.returns
returns c =
    tie_bytes_of _ _ _ c.chain_count-n.ensures c.slice_count-s.ensures _ _ _ c.ties_at.ensures
    c.tie_count-entries.ensures c.part.ensures
