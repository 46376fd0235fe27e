-- `eliminate` meets its contract: each way out by its law.
use mathlib.Core.Path.{sym}
use Prim.Native.Nat.{◌≤◌}
use lib.ListN.{length}
use lib.Seq.{length-take-le}
use Rattle.elimination.proofs.CallLaws.{Kept, kept_of, kept_most, kept_words, held_long, width_inside, ends_2, ends_15, ends_17, ends_18, ends_done}
use borrow.Author.Rules.{rules}
use Rattle.elimination.proofs.eliminate.Goals as goal
use Rattle.elimination.proofs.eliminate.Goals.{After-held-2-1}

kept : (c : After-held-2-1) → Kept c.args.m c.args.columns.now c.reduce-q.result
kept c =
    let width_test = c.is_bad_width.ensures in
    let width-taken = c.if-is_bad_width.false in
    let columns-test = c.has_column_beyond.ensures in
    let columns-taken = c.if-has_column_beyond.false in
    kept_of _ _ _ _ _ _ width_test width-taken columns-test
    columns-taken c.unit_words-held.ensures c.reduce-q.ensures.0

pub returns-then-is_bad_width : goal.returns-then-is_bad_width
returns-then-is_bad_width c =
    let ends = ends_2 _ c.args.columns.now c.args.words.now _ c.is_bad_width.ensures c.if-is_bad_width.true in
    record { answer = ends.0; list = ends.1 }

pub returns-then-has_column_beyond : goal.returns-then-has_column_beyond
returns-then-has_column_beyond c =
    let ends = ends_15 _ _ c.args.words.now _ _ c.is_bad_width.ensures c.if-is_bad_width.false c.has_column_beyond.ensures c.if-has_column_beyond.true in
    record { answer = ends.0; list = ends.1 }

pub slice_bounds-held-end : goal.slice_bounds-held-end
slice_bounds-held-end c =
    let width_test = c.is_bad_width.ensures in
    width_inside _ _ _ width_test c.if-is_bad_width.false c.unit_words-held.ensures

pub slice_bounds-reduce-end : goal.slice_bounds-reduce-end
slice_bounds-reduce-end c =
    let width_test = c.is_bad_width.ensures in
    let width-taken = c.if-is_bad_width.false in
    sym (length-take-le _ _ (width_inside _ _ _ width_test width-taken c.unit_words-held.ensures))

pub overflow_sub-rank : goal.overflow_sub-rank
overflow_sub-rank c = kept_most _ _ _ (kept (goal.at.overflow_sub-rank c).After-held-2-1)

pub returns-then-is_empty : goal.returns-then-is_empty
returns-then-is_empty c =
    let ends = ends_17 _ _ c.args.words.now _ (kept (goal.at.returns-then-is_empty c).After-held-2-1) c.if-is_empty.true in
    record { answer = ends.0; list = ends.1 }

pub returns-then-words-q : goal.returns-then-words-q
returns-then-words-q c =
    let so_far = kept (goal.at.returns-then-words-q c).After-held-2-1 in
    let ends = ends_18 _ _ c.args.words.now _ so_far c.if-is_empty.false c.if-words-q.true in
    record { answer = ends.0; list = ends.1 }

pub slice_bounds-held-end-2 : goal.slice_bounds-held-end-2
slice_bounds-held-end-2 c =
    let words_left = c.reduce-q.new.held in
    let units = c.unit_words-held.ensures in
    let same_long = c.reduce-q.auto.held in
    let so_far = kept (goal.at.slice_bounds-held-end-2 c).After-held-2-1 in
    held_long _ _ _ words_left _ so_far units same_long

pub slice_bounds-write_front-end : goal.slice_bounds-write_front-end
slice_bounds-write_front-end c =
    let words_left = c.reduce-q.new.held in
    let units = c.unit_words-held.ensures in
    let same_long = c.reduce-q.auto.held in
    let so_far = kept (goal.at.slice_bounds-write_front-end c).After-held-2-1 in
    sym (length-take-le _ _ (held_long _ _ _ words_left _ so_far units same_long))

pub returns : goal.returns
returns c =
    let some_word = c.if-is_empty.false in
    let units = c.unit_words-held.ensures in
    let same_long = c.reduce-q.auto.held in
    let reduced = c.reduce-q.ensures.1 in
    let so_far = kept (goal.at.returns c).After-held-2-1 in
    let written = c.write_front.ensures in
    let room : c.reduce-q.result ≤ length c.args.words.now = search rules in
    let ends = ends_done _ _ c.args.words.now _ _ _ so_far some_word room (kept_words _ _ _ _ _ so_far units same_long reduced) written in
    record { answer = ends.0; list = ends.1 }
