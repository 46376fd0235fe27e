use mathlib.Core.Path.{◌≡◌, refl, sym, ap, ◌∙◌}
use mathlib.Core.Logic.{dite}
use Prim.Native.Nat.{◌<◌}
use native.Mathlib.Decide.{dec_lt}
use native.Mathlib.Omega.{arith}
use lib.Bits.{bit_or, or_zero_r}
use lib.ListN.{get_or, get_or-eq_default}
use Rattle.joint_marks.proofs.JointLaws.{adding_start, adding_turn}
use Rattle.joint_marks.proofs.add_row.Goals as goal

pub loop-i-init : goal.loop-i-init
loop-i-init c = adding_start _ _ _

pub loop-i-preserved : goal.loop-i-preserved
loop-i-preserved c = adding_turn _ _ _ _ _ _ c.loop-i.invariant (omega arith) refl

-- a byte past the row's end is 0
pub returns : goal.returns
returns c = λ i h.
    let at = c.loop-i in
    dite (dec_lt i at.i) (at.invariant.done i)
    (λ (n : i < at.i → ⊥).
    let past : get_or c.args.row.now i 0 ≡ 0 = get_or-eq_default c.args.row.now 0 (omega arith) in
    at.invariant.rest i (omega arith) ∙ sym (or_zero_r (get_or c.args.all.now i 0)) ∙ ap (bit_or (get_or c.args.all.now i 0)) (sym past))
