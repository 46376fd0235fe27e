-- `has_number` meets its contract: a test over a list is one over its places.
use mathlib.Core.Path.{◌∙◌}
use lib.Dec.{eqb}
use Rattle.symbol_flags.proofs.FlagLaws.{any_list}
use Rattle.symbol_flags.proofs.has_number.Goals as goal

pub returns : goal.returns
returns c = c.contains.ensures.value ∙ any_list (λ x. eqb x c.args.j) c.args.numbers.now
