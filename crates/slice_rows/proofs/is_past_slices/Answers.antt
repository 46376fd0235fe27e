-- `is_past_slices` meets its contract.
use mathlib.Core.Path.{sym}
use native.Mathlib.Omega.{arith}
use Rattle.std.proofs.lemmas.Bool.Decides.{nat_tests}
use Rattle.slice_rows.proofs.is_past_slices.Goals as goal

pub returns : goal.returns
returns c = rw (sym c.slice_count.ensures) (grind (arith, nat_tests))
