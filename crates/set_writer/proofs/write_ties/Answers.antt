-- `write_ties` meets its contract: the count, and the entries behind it.
use Rattle.set_writer.proofs.FileLaws.{ties_written}
use Rattle.set_writer.proofs.write_ties.Goals as goal

pub returns : goal.returns
returns c =
    let entry = c.args in
    ties_written entry.n entry.s _ _ entry.count entry.ties.now entry.out.now _ _ c.tie_count_at.ensures c.write_count.ensures
    c.ties_at.ensures c.write_bytes.ensures
