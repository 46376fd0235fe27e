-- `are_whole_32` meets its contract: the rows' places stay within the word.
use native.Mathlib.Omega.{arith}
use lib.Dec.{eqb}
use borrow.Author.Tests.{eqb-true, leb-true}
use Rattle.word.proofs.BoolLaws.{and_left, and_right}
use Rattle.rows.proofs.CellLaws.{place_small}
use Rattle.marked_rows.proofs.are_whole_32.Goals as goal

pub overflow_mul-end : goal.overflow_mul-end
overflow_mul-end c = record { fits = omega (arith, place_small c.args.rows.stride c.args.t (omega arith) (omega arith)) }

pub overflow_add-end : goal.overflow_add-end
overflow_add-end c = record { fits = omega (arith, place_small c.args.rows.stride c.args.t (omega arith) (omega arith)) }

pub overflow_add-result : goal.overflow_add-result
overflow_add-result c = record { fits = omega (arith, place_small c.args.rows.stride c.args.t (omega arith) (omega arith)) }

pub returns : goal.returns
returns c = λ h. (eqb-true _ _ (and_left _ _ h), leb-true _ _ (and_right (eqb c.args.rows.bytes 32) _ h))
