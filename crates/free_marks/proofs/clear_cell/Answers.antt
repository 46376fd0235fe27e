-- `clear_cell` meets its contract: one store clears one cell, and where there is no such byte there is nothing to clear.
use mathlib.Core.Path.{refl}
use native.Mathlib.Omega.{arith}
use borrow.Author.Rules.{rules}
use Rattle.rows.proofs.CellLaws.{place_small}
use Rattle.free_marks.proofs.ClearLaws.{cleared_past, cleared_end, cleared_cell}
use Rattle.free_marks.proofs.clear_cell.Goals as goal

pub returns-then-bytes-byte : goal.returns-then-bytes-byte
returns-then-bytes-byte c =
    let args = c.args in
    cleared_past args.n args.copy.now args.t args.c _ c.row_bytes-bytes.ensures c.if-bytes-byte.true

pub overflow_mul-at : goal.overflow_mul-at
overflow_mul-at c = record { fits = omega (arith, place_small c.row_bytes-bytes.result c.args.t (omega arith) (omega arith)) }

pub overflow_add-at : goal.overflow_add-at
overflow_add-at c = record { fits = omega (arith, place_small c.row_bytes-bytes.result c.args.t (omega arith) (omega arith)) }

pub returns-else-at-copy : goal.returns-else-at-copy
returns-else-at-copy c =
    let args = c.args in
    cleared_end args.n args.copy.now args.t args.c _ c.row_bytes-bytes.ensures (search rules) c.if-at-copy.false

pub returns-then-at-copy : goal.returns-then-at-copy
returns-then-at-copy c =
    let args = c.args in
    cleared_cell args.n args.copy.now _ args.t args.c _ _ c.row_bytes-bytes.ensures refl (search rules) (search rules) refl
