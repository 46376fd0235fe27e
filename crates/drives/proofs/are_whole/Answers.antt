-- `are_whole` meets its contract: the rows' places stay within the word.
use mathlib.Core.Path.{refl, sym}
use mathlib.Core.Bool.{true}
use native.Mathlib.Omega.{arith}
use borrow.Author.Tests.{leb-true}
use Rattle.word.proofs.BoolLaws.{true_not_false}
use Rattle.rows.proofs.CellLaws.{place_small}
use Rattle.drives.proofs.are_whole.Goals as goal

pub returns-then-bytes-lt8 : goal.returns-then-bytes-lt8
returns-then-bytes-lt8 c = λ h. absurd (true_not_false true refl (sym h))

pub returns-then-is_past : goal.returns-then-is_past
returns-then-is_past c = λ h. absurd (true_not_false true refl (sym h))

pub overflow_mul-end : goal.overflow_mul-end
overflow_mul-end c =
    let args = c.args in
    record { fits = omega (arith, place_small args.rows.stride args.s (omega arith) (omega arith)) }

pub overflow_add-end-2 : goal.overflow_add-end-2
overflow_add-end-2 c =
    let args = c.args in
    record { fits = omega (arith, place_small args.rows.stride args.s (omega arith) (omega arith)) }

pub overflow_add-result : goal.overflow_add-result
overflow_add-result c =
    let args = c.args in
    record { fits = omega (arith, place_small args.rows.stride args.s (omega arith) (omega arith)) }

pub returns : goal.returns
returns c = λ h. (omega arith, leb-true _ _ h)
