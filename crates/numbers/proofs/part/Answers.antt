-- `part` meets its contract: the start and the end are clamped.
use native.Mathlib.Omega.{arith}
use Rattle.numbers.proofs.PartLaws.{part_clamped}
use Rattle.numbers.proofs.part.Goals as goal

pub returns : goal.returns
returns c = part_clamped _ _ _ _ _ (omega arith) c.moved-end.ensures
