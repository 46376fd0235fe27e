-- `needs_sweep` meets its contract.
use mathlib.Core.Path.{ap₂}
use mathlib.Core.Bool.{Bool, not, ◌||◌}
use Rattle.sparse_columns.proofs.needs_sweep.Goals as goal

pub returns : goal.returns
returns c = ap₂ (λ (a b : Bool). not a || b) c.ones_pay.ensures c.has_bad_word.ensures
