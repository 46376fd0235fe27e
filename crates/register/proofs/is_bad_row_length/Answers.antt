-- `is_bad_row_length` meets its contract, which is its code.
use Rattle.register.proofs.is_bad_row_length.Goals as goal

pub returns : goal.returns
returns c = rw c.row_bytes.ensures
