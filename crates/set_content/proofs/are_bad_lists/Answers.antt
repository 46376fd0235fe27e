-- `are_bad_lists` meets its contract.
use mathlib.Core.Bool.{Bool, ◌||◌}
use mathlib.Core.Path.{ap₂}
use Rattle.set_content.proofs.are_bad_lists.Goals as goal

pub returns : goal.returns
returns c = ap₂ (λ (a b : Bool). a || b) c.are_bad_rows.ensures c.are_bad_entries.ensures
