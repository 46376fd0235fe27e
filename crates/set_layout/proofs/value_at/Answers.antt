-- `value_at` meets its contract: twice the rows before it.
use native.Mathlib.Nat.{mul_assoc}
use native.Mathlib.Omega.{arith}
use Rattle.rows.specs.Row.{row_bytes}
use Rattle.set_layout.proofs.value_at.Goals as goal

pub returns : goal.returns
returns c =
    omega (arith, c.rows_at.ensures, c.rows_length.ensures.0, mul_assoc 2 (row_bytes c.args.n) c.args.t)
