-- `has_spare_list` meets its contract.
use mathlib.Core.Bool.{Bool, ◌||◌}
use mathlib.Core.Path.{ap₂}
use Rattle.set_content.proofs.has_spare_list.Goals as goal

pub returns : goal.returns
returns c = ap₂ (λ (a b : Bool). a || b) c.has_spare_row.ensures c.has_spare_row-2.ensures
