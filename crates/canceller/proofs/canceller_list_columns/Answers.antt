use mathlib.Core.Path.{ap, ◌∙◌}
use Rattle.crossing.specs.Boundary.{listed_of}
use Rattle.canceller.proofs.canceller_list_columns.Goals as goal

pub returns : goal.returns
returns c = record { answer = c.from.ensures ∙ ap listed_of c.list_columns.ensures.result_value; list = c.list_columns.ensures.columns_after }
