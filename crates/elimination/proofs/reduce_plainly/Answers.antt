use mathlib.Core.Path.{sym}
use lib.Seq.{length-take-le}
use mathlib.Core.List.{◌++◌}
use Prim.Native.Nat.{◌+◌}
use lib.ListN.{drop}
use Rattle.elimination.proofs.LoopLaws.{Reduced, reduced_start, reduced_turn, reduced_on, reduced_empty, reduced_end}
use borrow.Author.Rules.{rules}
use Rattle.elimination.proofs.reduce_plainly.Goals as goal
use Rattle.elimination.proofs.reduce_plainly.Goals.{After-add_column-left}

-- the words after the column taken
turned : (c : After-add_column-left) → Reduced c.args.columns.now c.args.held.now (c.add_column-left.new.words ++ drop c.loop-i.left c.loop-i.held) c.add_column-left.result (c.loop-i.i + 1)
turned c =
    let so_far = c.loop-i.invariant in
    let inside = c.loop-i-test.true in
    reduced_turn _ _ _ _ _ _ _ so_far inside c.add_column-left.auto.words c.add_column-left.ensures.count c.add_column-left.ensures.list

pub loop-i-init : goal.loop-i-init
loop-i-init c = reduced_start _ _

pub returns-then-left-eq0 : goal.returns-then-left-eq0
returns-then-left-eq0 c = reduced_empty _ _ _ _ _ c.loop-i.invariant (search rules)

pub slice_bounds-add_column-end-in-loop-i : goal.slice_bounds-add_column-end-in-loop-i
slice_bounds-add_column-end-in-loop-i c = sym (length-take-le _ _ (search rules))

pub slice_bounds-next_place-end : goal.slice_bounds-next_place-end
slice_bounds-next_place-end c = (turned (goal.at.slice_bounds-next_place-end c).After-add_column-left).left_long

pub slice_bounds-next_place-end-in-loop-i : goal.slice_bounds-next_place-end-in-loop-i
slice_bounds-next_place-end-in-loop-i c = sym (length-take-le _ _ (turned (goal.at.slice_bounds-next_place-end-in-loop-i c).After-add_column-left).left_long)

pub loop-i-preserved : goal.loop-i-preserved
loop-i-preserved c =
    let so_far = turned (goal.at.loop-i-preserved c).After-add_column-left in
    reduced_on _ _ _ _ _ _ so_far c.next_place-i.ensures.1

pub returns : goal.returns
returns c = reduced_end _ _ _ _ _ c.loop-i.invariant (search rules)
