-- `list_columns` meets its contract, by the reader's answer, by the count of entries and then by the room in the list.
use mathlib.Core.Path.{sym}
use lib.Seq.{length-take-le}
use borrow.Author.Rules.{rules}
use Rattle.set_file.proofs.ReadLaws.{refused_set}
use Rattle.columns.proofs.CallLaws.{list_set_refused, bare_short, bare_listed}
use Rattle.columns.proofs.list_columns.Goals as goal

pub returns-in_err-taken : goal.returns-in_err-taken
returns-in_err-taken c =
    let lists = list_set_refused _ c.args.columns.now c.from_residual.result _ (search rules) (refused_set _ _ c.in_err-taken.ensures.answer) in
    record { result_value = lists.0; columns_after = lists.1 }

pub returns-then-has_ties : goal.returns-then-has_ties
returns-then-has_ties c =
    let lists = c.list_named.ensures c.in_ok-taken.ensures.taken c.tie_count-count.ensures in
    record { result_value = lists.0; columns_after = lists.1 }

pub returns-then-is_short : goal.returns-then-is_short
returns-then-is_short c =
    let lists =
    bare_short _ _ c.in_ok-taken.ensures.taken _ c.mark_rows-marks.ensures _ c.tie_count-count.ensures c.if-has_ties.false _ c.count_marks-symbols.ensures
    c.args.columns.now c.if-is_short.true
    in
    record { result_value = lists.0; columns_after = lists.1 }

pub slice_bounds-fill_columns-end-2 : goal.slice_bounds-fill_columns-end-2
slice_bounds-fill_columns-end-2 c = sym (length-take-le _ _ (search rules))

pub returns : goal.returns
returns c =
    let lists =
    bare_listed _ _ c.in_ok-taken.ensures.taken _ c.mark_rows-marks.ensures _ c.tie_count-count.ensures c.if-has_ties.false _ c.count_marks-symbols.ensures
    c.args.columns.now _ c.if-is_short.false c.fill_columns.ensures
    in
    record { result_value = lists.0; columns_after = lists.1 }
