use Rattle.std.proofs.Common.{◌∙◌, ◌++◌, ◌-◌, ◌≤◌, ℕ, List, length, drop, min, refl, ap, arith, rules}
use Rattle.rows.specs.Row.{cell}
use Rattle.marked_words.specs.Back.{back}
use Rattle.eight_clocks.proofs.EightLaws.{eight_on_same}
use Rattle.swept_columns.proofs.FillLaws.{columns_limited}
use Rattle.eighth_columns.proofs.EighthLaws.{eighth_room, eighth_starts, eighth_turns, eighth_ends, eighth_place}
use Rattle.eighth_columns.proofs.fill_wide.Goals as goal

pub loop-t-init : goal.loop-t-init
loop-t-init c = record { room = omega arith; columns = eighth_starts _ _ _ _ _ _ refl refl }

pub loop-t-preserved : goal.loop-t-preserved
loop-t-preserved c =
    let at = c.loop-t in
    let listed = c.list_slice-place.ensures in
    let table = c.eight_on-table.result in
    let wide : 8 ≤ min c.args.taken.register.m 64 = omega (arith, c.requires) in
    let columns =
    eighth_turns _ _ _ table wide (eight_on_same _ _ _ _ table (c.eight_on-table.ensures wide)) _ _ _ _ _ c.row_of-row.result.now _ _ at.t (c.slice_limit-slices.result - 1 - (at.t - 1)) (omega arith) (omega arith) at.invariant.columns (ap cell c.row_of-row.ensures) listed.place
    (ap (λ (x : List ℕ). x ++ drop at.place at.columns) listed.list) c.pass_slice.ensures in
    record { room = (eighth_room _ _ _ _ _ _ _ _ columns).1; columns = columns }

pub returns : goal.returns
returns c =
    let columns = c.loop-t.invariant.columns in
    let same =
    columns_limited _ _ _ _ _ _ _ c.args.taken.spread _ c.chain_limit.ensures c.slice_limit-slices.ensures (search rules) in
    record { place = eighth_place _ _ _ _ _ _ _ _ columns (omega arith) ∙ ap (λ (x : List ℕ). length c.args.columns.now - length x) same; list = eighth_ends _ _ _ _ _ _ _ _ columns (omega arith) ∙ ap (λ (x : List ℕ). back x c.args.columns.now) same }
