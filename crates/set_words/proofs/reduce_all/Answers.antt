use mathlib.Core.Path.{◌≡◌, refl, ◌∙◌}
use Prim.Native.Nat.{◌≤◌}
use native.Mathlib.Omega.{arith}
use lib.ListN.{length, drop, length-append}
use lib.Seq.{take-length, take-append-le, length-take-le, length_front}
use Rattle.set_words.proofs.ReduceLaws.{reduced_alike, done_early, done_settled, done_all}
use Rattle.set_words.proofs.reduce_all.Goals as goal

pub loop-at-init : goal.loop-at-init
loop-at-init c =
    (omega arith, refl, refl, refl, (λ spread m so_far. reduced_alike _ _ _ _ _ _ _ _ _ _ _ c.slice_limit.ensures (take-length _) so_far))

pub returns-then-is_empty : goal.returns-then-is_empty
returns-then-is_empty c = record { left = omega arith; words = (λ spread m start. done_early _ _ _ _ _ _ _ _ c.loop-at.held _ c.if-is_empty.true (c.loop-at.invariant.4 spread m start)) }

pub returns-then-is_done : goal.returns-then-is_done
returns-then-is_done c =
    let at = c.loop-at in
    let few : length at.words ≤ 256 = omega (arith, c.requires.1, at.invariant.3) in
    record {
      left = omega (arith, at.invariant.0, at.invariant.1);
      words = (λ spread m start.
          done_settled _ _ _ _ _ _ _ _ at.held _ (λ i j n hj hn hm. c.is_done.ensures c.if-is_done.true few i j n _ spread hj hn hm) at.invariant.0
          (at.invariant.4 spread m start));
    }

pub loop-at-preserved : goal.loop-at-preserved
loop-at-preserved c =
    let at = c.loop-at in
    let added = c.add_next-at in
    let long : length added.new.held ≡ at.at.left = added.auto.held ∙ length-take-le at.at.left at.held at.invariant.0 in
    let few : added.result.left ≤ length added.new.held = omega (arith, added.ensures.left, length-take-le at.at.left at.held at.invariant.0) in (
      omega (arith, few, length-append added.new.held (drop at.at.left at.held)),
      length_front at.held added.new.held at.at.left added.auto.held ∙ at.invariant.1,
      added.auto.working ∙ at.invariant.2,
      added.auto.words ∙ at.invariant.3,
      (λ spread m start.
          reduced_alike _ _ _ _ _ _ _ _ _ _ _ refl (take-append-le added.result.left added.new.held (drop at.at.left at.held) few)
          (added.ensures.words spread m (at.invariant.4 spread m start))),
    )

pub returns : goal.returns
returns c =
    let at = c.loop-at in
    record { left = omega (arith, at.invariant.0, at.invariant.1); words = (λ spread m start. done_all _ _ _ _ _ _ _ _ _ _ (omega arith) at.invariant.0 (at.invariant.4 spread m start)) }
