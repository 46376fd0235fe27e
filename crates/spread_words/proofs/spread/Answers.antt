use native.Mathlib.Omega.{arith}
use borrow.Author.Rules.{rules}
use Rattle.spread_words.proofs.SpreadLaws.{spreading_start, spreading_turn, spreading_end, highest_below}
use Rattle.spread_words.proofs.spread.Goals as goal

pub loop-w-init : goal.loop-w-init
loop-w-init c = spreading_start _ _ c.requires

pub overflow_shr-w : goal.overflow_shr-w
overflow_shr-w c = highest_below _ _ c.highest_bit-top.ensures

pub offset_bounds-slots-top : goal.offset_bounds-slots-top
offset_bounds-slots-top c = omega (arith, highest_below _ _ c.highest_bit-top.ensures)

pub bounds-slots-top : goal.bounds-slots-top
bounds-slots-top c = omega (arith, highest_below _ _ c.highest_bit-top.ensures, c.loop-w.invariant.slots.wide)

pub overflow_add-next : goal.overflow_add-next
overflow_add-next c = omega (arith, highest_below _ _ c.highest_bit-top.ensures)

pub overflow_shl-dead : goal.overflow_shl-dead
overflow_shl-dead c = highest_below _ _ c.highest_bit-top.ensures

pub loop-w-preserved : goal.loop-w-preserved
loop-w-preserved c = spreading_turn _ _ _ _ _ _ c.loop-w.invariant (search rules) c.if-top-next.false (highest_below _ _ c.highest_bit-top.ensures) c.if-w-top-ne1.false

pub returns : goal.returns
returns c = spreading_end _ _ _ _ _ c.loop-w.invariant (search rules)
