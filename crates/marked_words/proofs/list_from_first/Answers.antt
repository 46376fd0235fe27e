use mathlib.Core.Path.{refl}
use Prim.Native.Nat.{◌<◌}
use native.Mathlib.Omega.{arith}
use lib.Count.{count_trailing_zeros}
use lib.ListN.{length}
use Rattle.word.proofs.LowestLaws.{Lowest, trailing_lowest, lowest_less}
use Rattle.word.proofs.MarkedLaws.{mark_inside}
use Rattle.marked_words.proofs.ListLaws.{putting_starts, putting_place, putting_room, putting_long, putting_turns, putting_ends}
use Rattle.marked_words.proofs.list_from_first.Goals as goal
use Rattle.marked_words.proofs.list_from_first.Goals.{In-loop-left}

pub loop-left-init : goal.loop-left-init
loop-left-init c = let h = c.ranges.marks.fits in (h, c.requires.marks_bound, refl, putting_starts _ _ _ _ h c.requires.marks_in_bounds refl)

lowest : (c : In-loop-left) → Lowest c.loop-left.left (count_trailing_zeros 64 c.loop-left.left)
lowest c = trailing_lowest _ _ c.loop-left-test.true c.loop-left.invariant.0 refl

room : (c : In-loop-left) → c.loop-left.place < length c.loop-left.columns
room c =
    let lowest : Lowest c.loop-left.left (count_trailing_zeros 64 c.loop-left.left) = (trailing_lowest _ _ c.loop-left-test.true c.loop-left.invariant.0 refl) in
    putting_room _ _ _ _ _ _ _ c.loop-left.invariant.3 (lowest)

pub bounds-words-low : goal.bounds-words-low
bounds-words-low c = mark_inside c.args.words.now _ _ c.loop-left.invariant.1 (lowest (goal.at.bounds-words-low c).In-loop-left)

pub offset_bounds-columns-place : goal.offset_bounds-columns-place
offset_bounds-columns-place c = omega (arith, room (goal.at.offset_bounds-columns-place c).In-loop-left, c.loop-left.invariant.2)

pub bounds-columns-place : goal.bounds-columns-place
bounds-columns-place c = room (goal.at.bounds-columns-place c).In-loop-left

pub overflow_add-place : goal.overflow_add-place
overflow_add-place c = omega (arith, room (goal.at.overflow_add-place c).In-loop-left, c.loop-left.invariant.2)

pub loop-left-smaller : goal.loop-left-smaller
loop-left-smaller c = lowest_less _ _ (lowest (goal.at.loop-left-smaller c).In-loop-left)

pub loop-left-preserved : goal.loop-left-preserved
loop-left-preserved c =
    let at = c.loop-left in
    let less = lowest_less _ _ (lowest (goal.at.loop-left-preserved c).In-loop-left) in
    let k = putting_turns c.args.words.now _ _ _ _ _ _ _ at.invariant.3 (lowest (goal.at.loop-left-preserved c).In-loop-left) refl in
    (omega (arith, less, at.invariant.0), omega (arith, less, at.invariant.1), putting_long _ _ _ _ _ _ k, k)

pub returns : goal.returns
returns c = record { value = putting_place c.args.words.now _ c.args.columns.now _ c.ranges.marks.fits refl; columns_after = putting_ends _ _ _ _ _ _ c.loop-left.invariant.3 (omega arith) }
