-- `open_run` meets its contract: the basis is that of the words of single bits, and then that of those after the columns.
use Rattle.run_words.proofs.TurnLaws.{singles_held}
use Rattle.run_words.proofs.open_run.Goals as goal

pub returns : goal.returns
returns c =
    let singles = c.single_bits.ensures in
    λ width. c.take_columns.ensures _ (singles_held _ _ _ width singles.words singles.dead)
