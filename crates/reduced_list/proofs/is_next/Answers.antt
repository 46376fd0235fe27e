-- `is_next` meets its contract, which is its code.
use mathlib.Core.Path.{refl}
use Rattle.reduced_list.specs.TopPass.{next_above}
use Rattle.reduced_list.proofs.is_next.Goals as goal

pub returns : goal.returns
unfolding next_above
returns c = refl
