-- `opposite_cells` meets its contract: the entries are the set's.
use Rattle.expectation.proofs.CallLaws.{opposite_taken}
use Rattle.expectation.proofs.opposite_cells.Goals as goal

pub returns : goal.returns
returns c = λ taken. opposite_taken _ _ _ _ _ taken c.tie_bytes.ensures c.tie_count.ensures c.side_columns.ensures
