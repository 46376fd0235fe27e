-- `transposed` meets its contract.
use Rattle.closed_words.proofs.ClosedLaws.{clock_transposed}
use Rattle.closed_words.proofs.transposed.Goals as goal

pub returns : goal.returns
returns c = clock_transposed _ _ _ _ _ _ c.low_mask-mask.ensures c.shared_parity.ensures c.chosen_word-feedback.ensures
