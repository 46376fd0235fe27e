-- `precedes_next` meets its contract.
use Rattle.ties.proofs.EntryLaws.{precedes_of}
use Rattle.ties.proofs.precedes_next.Goals as goal

pub returns : goal.returns
returns c =
    precedes_of _ _ _ _ _ _ _ c.tie_slice-t.ensures c.tie_slice-next.ensures c.tie_chain-c.ensures
    c.tie_chain.ensures
