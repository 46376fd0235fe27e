-- `has_valued_unknown` meets its contract: rows of 32 bytes that are all there by words, the others byte by byte.
use borrow.Author.Rules.{rules}
use Rattle.set_file.proofs.CodeLaws.{valued_pairs}
use Rattle.set_file.proofs.has_valued_unknown.Goals as goal

pub returns-then-end-set : goal.returns-then-end-set
returns-then-end-set c =
    valued_pairs _ (λ i. (c.type_inv.set i).fits) _ _ _ _ _ c.chain_count-n.ensures
    c.slice_count-s.ensures c.rows_at-at.ensures c.row_bytes.ensures (search rules) c.pairs_share_a_bit.ensures
