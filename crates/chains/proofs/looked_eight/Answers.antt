-- `looked_eight` meets its contract: eight bytes one after the other.
use Rattle.chains.proofs.TableLaws.{looked_eight}
use Rattle.chains.proofs.looked_eight.Goals as goal

pub returns : goal.returns
returns c =
    let args = c.args in
    looked_eight args.table.now args.row.now args.i _ _ _ _ _ _ _ _
    c.looked_byte.ensures
    c.looked_byte-2.ensures
    c.looked_byte-3.ensures
    c.looked_byte-4.ensures
    c.looked_byte-5.ensures
    c.looked_byte-6.ensures
    c.looked_byte-7.ensures
    c.looked_byte-8.ensures
