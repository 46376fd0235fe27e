-- `has_spare_bits` meets its contract.
use Rattle.set_file.proofs.CodeLaws.{spare_none, spare_of}
use Rattle.set_file.proofs.has_spare_bits.Goals as goal

pub returns-then-set-at : goal.returns-then-set-at
returns-then-set-at c = spare_none _ _ _ c.chain_count-n.ensures c.rows_at-at.ensures c.if-set-at.true

pub returns : goal.returns
returns c =
    spare_of _ _ _ _ _ c.chain_count-n.ensures c.slice_count.ensures c.rows_at-at.ensures c.has_spare_row.ensures
