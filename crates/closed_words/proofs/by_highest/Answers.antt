use mathlib.Core.Path.{refl}
use Prim.Native.Nat.{◌<◌}
use native.Mathlib.Omega.{arith}
use Rattle.closed_words.proofs.ClosedLaws.{highest_below, even_none, even_put}
use borrow.Author.Rules.{rules}
use Rattle.closed_words.proofs.by_highest.Goals as goal

pub loop-w-init : goal.loop-w-init
loop-w-init c = (refl, even_none _ _ refl)

pub offset_bounds-tops-at : goal.offset_bounds-tops-at
offset_bounds-tops-at c = record { fits = omega (arith, highest_below _ _ c.highest_bit-at.ensures) }

pub bounds-tops-at : goal.bounds-tops-at
bounds-tops-at c = omega (arith, highest_below _ _ c.highest_bit-at.ensures)

pub loop-w-preserved : goal.loop-w-preserved
loop-w-preserved c =
    let at = c.loop-w in
    let room : c.highest_bit-at.result < 64 = highest_below _ _ c.highest_bit-at.ensures in
    (search rules, even_put _ at.tops _ at.w-index at.invariant.1 (search rules) (omega (arith, at.invariant.0)))
