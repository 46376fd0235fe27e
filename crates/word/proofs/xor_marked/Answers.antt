use mathlib.Core.Path.{refl}
use native.Mathlib.Omega.{arith}
use lib.Count.{count_trailing_zeros}
use borrow.Author.Rules.{rules}
use Rattle.word.proofs.LowestLaws.{Lowest, trailing_lowest, lowest_less}
use Rattle.word.proofs.MarkedLaws.{masked_below, mark_inside, marked_starts, marked_turns, marked_ends}
use Rattle.word.proofs.xor_marked.Goals as goal
use Rattle.word.proofs.xor_marked.Goals.{In-loop-left}

pub loop-left-init : goal.loop-left-init
loop-left-init c =
    let args = c.args in
    let k = masked_below args.words.now args.marks _ c.low_mask.ensures in
    (k.0, k.1, marked_starts args.words.now args.marks _ (search rules) c.low_mask.ensures)

lowest : (c : In-loop-left) → Lowest c.loop-left.left (count_trailing_zeros 64 c.loop-left.left)
lowest c = trailing_lowest _ _ c.loop-left-test.true c.loop-left.invariant.0 refl

pub bounds-words-low : goal.bounds-words-low
bounds-words-low c = mark_inside c.args.words.now _ _ c.loop-left.invariant.1 (lowest (goal.at.bounds-words-low c).In-loop-left)

pub loop-left-preserved : goal.loop-left-preserved
loop-left-preserved c =
    let at = c.loop-left in
    let less = lowest_less _ _ (lowest (goal.at.loop-left-preserved c).In-loop-left) in (
      omega (arith, less, at.invariant.0),
      omega (arith, less, at.invariant.1),
      marked_turns c.args.words.now _ _ at.sum _ at.invariant.1 (lowest (goal.at.loop-left-preserved c).In-loop-left) at.invariant.2,
    )

pub returns : goal.returns
returns c = marked_ends c.args.words.now _ c.loop-left.sum _ (omega arith) c.loop-left.invariant.2
