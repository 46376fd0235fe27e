-- `are_bad_rows` meets its contract.
use lib.ListN.{length}
use lib.Dec.{eqb}
use Prim.Native.Nat.{ℕ}
use mathlib.Core.Bool.{not, ◌||◌}
use mathlib.Core.Path.{ap}
use Rattle.set_content.proofs.are_bad_rows.Goals as goal

pub returns : goal.returns
returns c = ap (λ (n : ℕ). not (eqb (length c.args.values.now) n) || not (eqb (length c.args.marks.now) n)) c.rows_length-bytes.ensures.0
