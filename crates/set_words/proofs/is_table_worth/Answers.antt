-- `is_table_worth` meets its contract.
use Rattle.word.proofs.BoolLaws.{and_right}
use Rattle.parity_table.proofs.SkipLaws.{pays_few}
use Rattle.set_words.proofs.is_table_worth.Goals as goal

pub returns : goal.returns
returns c = λ e. pays_few _ _ _ c.pays.ensures (and_right c.is_some_and.result _ e)
