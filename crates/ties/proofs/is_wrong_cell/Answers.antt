-- `is_wrong_cell` meets its contract.
use Rattle.ties.proofs.EntryLaws.{wrong_cell_of}
use Rattle.ties.proofs.is_wrong_cell.Goals as goal

pub returns : goal.returns
returns c =
    let called = c.args in
    wrong_cell_of _ _ called.list.now _ _ called.marks _ _ _ _ c.tie_slice-t.ensures c.tie_chain-c.ensures c.row_of.ensures
    c.cell_at-mark.ensures
