-- `rows_length` meets its contract: the product stays within the word.
use Rattle.set_layout.proofs.LayoutLaws.{rows_small}
use native.Mathlib.Omega.{arith}
use Prim.Native.Nat.{ℕ, ◌*◌}
use mathlib.Core.Path.{ap}
use Rattle.set_layout.proofs.rows_length.Goals as goal

pub overflow_mul-result : goal.overflow_mul-result
overflow_mul-result c = record { fits = omega (arith, rows_small c.row_bytes.result c.args.s (omega arith) (omega arith)) }

pub returns : goal.returns
returns c = (ap (λ (b : ℕ). b * c.args.s) c.row_bytes.ensures, rows_small c.row_bytes.result c.args.s (omega arith) (omega arith))
