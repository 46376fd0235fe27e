-- `row_of` meets its contract: the row's place stays within the word.
use native.Mathlib.Omega.{arith}
use Rattle.rows.proofs.CellLaws.{place_small}
use Rattle.rows.proofs.row_of.Goals as goal

pub overflow_mul-stride : goal.overflow_mul-stride
overflow_mul-stride c = record { fits = omega (arith, place_small c.args.rows.stride c.from.result (omega arith) (omega arith)) }

pub overflow_add-at : goal.overflow_add-at
overflow_add-at c = record { fits = omega (arith, place_small c.args.rows.stride c.from.result (omega arith) (omega arith)) }
