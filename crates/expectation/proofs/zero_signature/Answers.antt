-- `zero_signature` meets its contract: the values as they stand, and the cells tied as opposite.
use Rattle.expectation.proofs.CallLaws.{zero_taken}
use Rattle.expectation.proofs.zero_signature.Goals as goal

pub returns : goal.returns
returns c = λ taken. zero_taken _ _ _ _ taken c.sign_values.ensures (c.opposite_cells.ensures taken)
