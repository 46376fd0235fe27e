use mathlib.Core.Path.{◌≡◌, sym, ◌∙◌}
use Prim.Native.Nat.{◌+◌, ◌*◌, ◌^◌}
use native.Mathlib.Omega.{arith}
use lib.ListN.{length}
use Rattle.numbers.specs.Bytes.{number, number_at, word_at}
use Rattle.numbers.proofs.ByteLaws.{number_moved, number_within, number_whole, number_at_lt}
use Rattle.numbers.proofs.read_short_word.Goals as goal
use Rattle.numbers.proofs.read_short_word.Goals.{In-Some}

pub loop-b-init : goal.loop-b-init
unfolding number_at
loop-b-init c =
    let whole : c.into_iter-b-iterator.result.iter.rest.now ≡ c.part.result.now = cc in
    rw (whole, c.part.ensures) (omega arith)

-- the invariant with one byte less left
moved : (c : In-Some) → let left = c.next.new.self.iter.rest.now in number left + 256 ^ length left * (256 * c.loop-b.w + c.in-Some.b.now) ≡ word_at c.args.s.now c.args.i
moved c = sym (number_moved c.next.new.self.iter.rest.now _ _) ∙ (rw c.in-Some.ensures.steps at c.loop-b.invariant)

pub overflow_mul-w : goal.overflow_mul-w
overflow_mul-w c = omega (arith, number_within _ _ _ (moved c), number_at_lt 8 c.args.s.now c.args.i (λ j. (c.type_inv.s j).fits))

pub overflow_add-w : goal.overflow_add-w
overflow_add-w c =
    omega (arith, number_within _ _ _ (moved (goal.at.overflow_add-w c).In-Some), number_at_lt 8 c.args.s.now c.args.i (λ j. (c.type_inv.s j).fits))

pub loop-b-preserved : goal.loop-b-preserved
loop-b-preserved c = rw c.from.ensures (moved (goal.at.loop-b-preserved c).In-Some)

pub returns : goal.returns
returns c = number_whole _ _ _ c.in-None.ensures.steps.0 c.loop-b.invariant
