use native.Mathlib.Omega.{arith}
use Rattle.word.proofs.ParityLaws.{paritied_start, paritied_small, paritied_turn, parity_below}
use Rattle.word.proofs.word_parities.Goals as goal

pub loop-i-init : goal.loop-i-init
loop-i-init c = paritied_start _ _ _ c.at_most_64-i.ensures

pub overflow_mul-bits : goal.overflow_mul-bits
overflow_mul-bits c = omega (arith, paritied_small _ _ _ _ c.loop-i.invariant (omega arith))

pub overflow_add-bits : goal.overflow_add-bits
overflow_add-bits c =
    omega (arith, paritied_small _ _ _ _ c.loop-i.invariant (omega arith), parity_below _ _ _ c.shared_parity.ensures)

pub loop-i-preserved : goal.loop-i-preserved
loop-i-preserved c = paritied_turn _ _ _ _ _ c.loop-i.invariant (omega arith) c.shared_parity.ensures
