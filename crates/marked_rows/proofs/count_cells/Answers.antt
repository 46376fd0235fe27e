-- `count_cells` meets its contract, by the four words of the row.
use mathlib.Core.Path.{◌∙◌}
use Rattle.marked_rows.proofs.CountLaws.{count_words}
use Rattle.marked_rows.proofs.count_cells.Goals as goal

pub returns : goal.returns
returns c =
    c.count_words.ensures
    ∙ count_words c.args.row.now (λ j. (c.type_inv.row j).fits) _ _ _ _ c.read_word-a.ensures c.read_word-b.ensures c.read_word-c.ensures
    c.read_word-d.ensures
