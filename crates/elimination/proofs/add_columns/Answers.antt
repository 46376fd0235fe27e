-- `add_columns` meets its contract: the words that are left, and zeros behind them.
use mathlib.Core.Path.{refl}
use native.Mathlib.Omega.{arith}
use Prim.Native.Nat.{◌≤◌}
use lib.ListN.{length}
use Rattle.elimination.proofs.LoopLaws.{left_inside, portion_ends}
use Rattle.elimination.proofs.add_columns.Goals as goal
use Rattle.elimination.proofs.add_columns.Goals.{After-words-1}

inside : (c : After-words-1) → c.reduce-left.result ≤ length c.reduce-left.new.held
inside c = left_inside _ _ c.reduce-left.new.held _ c.reduce-left.ensures.0 c.reduce-left.auto.held

pub offset_bounds-words-left : goal.offset_bounds-words-left
offset_bounds-words-left c = record { fits = omega (arith, inside (goal.at.offset_bounds-words-left c).After-words-1) }

pub slice_bounds-clear_words-count : goal.slice_bounds-clear_words-count
slice_bounds-clear_words-count c = inside (goal.at.slice_bounds-clear_words-count c).After-words-1

pub returns : goal.returns
returns c =
    let reduced = c.reduce-left in
    record { count = reduced.ensures.0; list = portion_ends _ _ _ _ reduced.ensures.0 reduced.auto.held _ _ reduced.ensures.1 refl c.clear_words.ensures }

pub slice_bounds-clear_words-start : goal.slice_bounds-clear_words-start
slice_bounds-clear_words-start c = inside (goal.at.slice_bounds-clear_words-start c).After-words-1
