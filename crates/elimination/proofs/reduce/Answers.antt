-- `reduce` meets its contract: the first columns by a basis, and the others on the words that these leave.
use mathlib.Core.Path.{sym}
use Prim.Native.Nat.{◌≤◌}
use lib.ListN.{length}
use lib.Seq.{length-take-le}
use Rattle.elimination.proofs.LoopLaws.{begun_inside, begun_end}
use Rattle.elimination.proofs.reduce.Goals as goal
use Rattle.elimination.proofs.reduce.Goals.{After-held-1}

inside : (c : After-held-1) → c.begin-begun.result.left ≤ length c.begin-begun.new.words
inside c = begun_inside _ _ _ _ c.begin-begun.ensures c.begin-begun.auto.words

pub slice_bounds-reduce_plainly-end : goal.slice_bounds-reduce_plainly-end
slice_bounds-reduce_plainly-end c = inside (goal.at.slice_bounds-reduce_plainly-end c).After-held-1

pub slice_bounds-reduce_plainly-end-2 : goal.slice_bounds-reduce_plainly-end-2
slice_bounds-reduce_plainly-end-2 c = sym (length-take-le _ _ (inside (goal.at.slice_bounds-reduce_plainly-end-2 c).After-held-1))

pub returns : goal.returns
returns c = let begun = c.begin-begun in
    begun_end _ _ begun.new.words _ _ _ begun.ensures c.reduce_plainly.auto.held c.reduce_plainly.ensures
