use Rattle.std.proofs.Common.{◌∙◌, ◌++◌, List, ℕ, drop, refl, ap, arith, rules}
use Rattle.rows.specs.Row.{cell}
use Rattle.marked_words.specs.Back.{back}
use Rattle.swept_columns.proofs.FillLaws.{filled_room, filled_starts, filled_down, filled_ends, columns_limited}
use Rattle.swept_columns.proofs.fill_swept.Goals as goal

pub loop-t-init : goal.loop-t-init
loop-t-init c = record { room = omega arith; columns = filled_starts _ _ _ _ _ _ refl refl }

pub loop-t-preserved : goal.loop-t-preserved
loop-t-preserved c =
    let at = c.loop-t in
    let listed = c.list_row-place.ensures in
    let row = c.row_of-row in
    let columns =
    filled_down _ _ _ _ _ _ _ _ row.result.now _ _ at.t (omega arith) at.invariant.columns (ap cell row.ensures) listed.value
    (ap (λ (x : List ℕ). x ++ drop at.place at.columns) listed.columns_after) c.advance_words.ensures in
    record { room = (filled_room _ _ _ _ _ _ _ _ columns).1; columns = columns }

pub returns : goal.returns
returns c =
    filled_ends _ _ _ _ _ _ _ _ c.loop-t.invariant.columns (omega arith)
    ∙ ap (λ (x : List ℕ). back x c.args.columns.now)
    (columns_limited _ _ _ _ _ _ _ c.args.taken.spread _ c.chain_limit.ensures c.slice_limit-slices.ensures (search rules))
