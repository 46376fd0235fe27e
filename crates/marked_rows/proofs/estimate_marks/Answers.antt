-- `estimate_marks` meets its contract.
use mathlib.Core.Path.{ap}
use Prim.Native.Nat.{ℕ, ◌*◌, ◌/◌}
use native.Mathlib.Omega.{arith}
use lib.Dec.{ltb}
use borrow.Author.Tests.{leb-false}
use Rattle.word.proofs.BoolLaws.{or_false_right}
use Rattle.marked_rows.specs.Estimate.{every_eighth}
use Rattle.marked_rows.proofs.LastLaws.{marks_le}
use Rattle.marked_rows.proofs.estimate_marks.Goals as goal

pub returns-then-s-stride : goal.returns-then-s-stride
returns-then-s-stride c = rw c.if-s-stride.true c.count_marks.ensures

pub overflow_mul-eighth : goal.overflow_mul-eighth
overflow_mul-eighth c =
    let args = c.args in
    record { fits = omega (arith, leb-false 65536 args.rows.stride (or_false_right (ltb args.s 64) _ c.if-s-stride.false)) }

pub overflow_mul-result : goal.overflow_mul-result
overflow_mul-result c =
    let args = c.args in
    record { fits = omega (arith, c.count_marks-2.ensures, marks_le args.list.now (every_eighth args.rows) (args.s / 8)) }

pub returns : goal.returns
returns c = rw c.if-s-stride.false (ap (λ (k : ℕ). 8 * k) c.count_marks-2.ensures)
