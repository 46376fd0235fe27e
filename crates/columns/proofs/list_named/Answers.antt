-- `list_named` meets its contract, by the room in the list.
use mathlib.Core.Path.{sym}
use lib.Seq.{length-take-le}
use borrow.Author.Rules.{rules}
use Rattle.columns.proofs.FirstLaws.{heads_short, heads_listed}
use Rattle.columns.proofs.list_named.Goals as goal

pub returns-then-columns-found : goal.returns-then-columns-found
returns-then-columns-found c taken ec =
    let args = c.args in
    let ties = c.tie_bytes-ties in
    let flags = c.opening_flags-flags in
    let marks = c.mark_rows-marks in
    let heads = c.unmark-heads in
    let rows = c.packed-rows in
    heads_short args.set.now args.taken taken marks.result marks.ensures ties.result.now flags.result heads.result args.count rows.result ec ties.ensures
    flags.ensures.flags heads.ensures rows.ensures _ c.count_marks-found.ensures args.columns.now c.if-columns-found.true

pub slice_bounds-fill_named-end-4 : goal.slice_bounds-fill_named-end-4
slice_bounds-fill_named-end-4 c = sym (length-take-le _ _ (search rules))

pub returns : goal.returns
returns c taken ec =
    let args = c.args in
    let ties = c.tie_bytes-ties in
    let flags = c.opening_flags-flags in
    let marks = c.mark_rows-marks in
    let heads = c.unmark-heads in
    let rows = c.packed-rows in
    heads_listed args.set.now args.taken taken marks.result marks.ensures ties.result.now flags.result heads.result args.count rows.result ec ties.ensures
    flags.ensures.flags heads.ensures rows.ensures _ c.count_marks-found.ensures args.columns.now _ c.if-columns-found.false c.fill_named.ensures
