-- `pays` meets its contract.
use Prim.Native.Nat.{◌/◌}
use native.Mathlib.Nat.{mul-le-mul_left}
use native.Mathlib.Omega.{arith}
use borrow.Author.Tests.{ltb-false}
use lib.Dec.{ltb}
use Rattle.word.proofs.BoolLaws.{or_false_right}
use Rattle.parity_table.proofs.SkipLaws.{pays_not, pays_then}
use Rattle.parity_table.proofs.pays.Goals as goal

pub returns-then-words : goal.returns-then-words
returns-then-words c = pays_not _ _ c.if-words.true

pub overflow_mul-result : goal.overflow_mul-result
overflow_mul-result c =
    let args = c.args in
    record { fits = omega (arith, mul-le-mul_left (args.columns / 64) (ltb-false 64 args.words (or_false_right (ltb args.words 4) _ c.if-words.false))) }

pub returns : goal.returns
returns c = pays_then _ _ c.if-words.false
