-- `sign_values` meets its contract: the value rows are run.
use mathlib.Core.Path.{◌∙◌}
use Rattle.signing.proofs.RunLaws.{value_rows_cells}
use Rattle.signing.proofs.sign_values.Goals as goal

pub returns : goal.returns
returns c = c.sign_rows.ensures ∙ value_rows_cells _ _ _ c.value_rows.ensures _ _
