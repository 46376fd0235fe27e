-- `fill_parities` meets its contract: what is looked up in the table of the rows is a column's parities.
use mathlib.Core.Path.{◌∙◌}
use Rattle.turned_words.proofs.TurnedLaws.{rows_marked}
use Rattle.byte_tables.proofs.TableLaws.{looked_marked}
use Rattle.parity_table.proofs.fill_parities.Goals as goal

pub returns : goal.returns
returns c = λ x small. looked_marked _ c.fill_table.new.table c.fill_table.ensures x small ∙ rows_marked _ _ x c.turn-rows.ensures small
