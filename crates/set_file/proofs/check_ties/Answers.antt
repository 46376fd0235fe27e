-- `check_ties` meets its contract, without an entry and with some.
use Rattle.set_file.proofs.CodeLaws.{tied_none, tied_of}
use Rattle.set_file.proofs.check_ties.Goals as goal

pub returns-then-count-eq0 : goal.returns-then-count-eq0
returns-then-count-eq0 c = tied_none _ _ c.if-count-eq0.true

pub returns : goal.returns
returns c =
    tied_of _ _ _ _ _ _ _ c.chain_count-n.ensures c.slice_count-s.ensures c.tie_bytes.ensures c.mark_rows.ensures c.check_ties.ensures
