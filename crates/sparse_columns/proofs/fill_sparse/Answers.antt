use Rattle.std.proofs.Common.{◌∙◌, ◌++◌, ◌-◌, ℕ, List, take, drop, min, refl, ap, arith, rules}
use Rattle.std.proofs.lemmas.List.{length-take}
use Rattle.rows.specs.Row.{cell}
use Rattle.rows.specs.Lists.{cells_of}
use Rattle.marked_rows.proofs.LastLaws.{last_le}
use Rattle.marked_words.specs.Back.{back}
use Rattle.swept_columns.proofs.FillLaws.{columns_limited}
use Rattle.sparse_columns.proofs.SparseLaws.{PowersIn, good_limited, sparse_room, sparse_starts, sparse_skips, sparse_steps, sparse_ends}
use Rattle.sparse_columns.proofs.fill_sparse.Goals as goal

pub loop-end-init : goal.loop-end-init
loop-end-init c = record {
  inside = omega (arith, last_le c.args.list.now c.args.marks c.slice_limit-slices.result);
  room = omega arith;
  columns = sparse_skips _ _ _ _ _ _ _ _ _ _ (sparse_starts _ _ _ _ _ refl) (omega (arith, length-take c.chain_limit.result c.args.taken.spread)) refl c.marked_end-end.ensures;
}

pub loop-end-smaller : goal.loop-end-smaller
loop-end-smaller c = omega (arith, last_le c.args.list.now c.args.marks (c.loop-end.end - 1))

pub loop-end-preserved : goal.loop-end-preserved
loop-end-preserved c =
    let at = c.loop-end in
    let args = c.args in
    let register = args.taken.register in
    let listed = c.list_row-start.ensures in
    let m = min register.m 64 in
    let right : PowersIn m register.taps c.slice_limit-slices.result c.powers-table.result =
    λ i h. c.powers-table.ensures i (omega arith) (omega arith) in
    let good = good_limited register.m args.taken.n m c.chain_limit.result args.taken.spread refl c.chain_limit.ensures (search rules) ∙ c.requires in
    let columns =
    sparse_steps m register.taps register.inversion (take c.chain_limit.result args.taken.spread) c.slice_limit-slices.result (cells_of args.list.now args.marks) c.powers-table.result (search rules) right good
    _ _ _ _ _ c.row_of-row.result.now _ _ at.end c.width_limit-width.result (omega arith) (omega arith) (omega arith) c.width_limit-width.ensures at.invariant.columns (ap cell c.row_of-row.ensures) listed.value
    (ap (λ (x : List ℕ). x ++ drop at.place at.columns) listed.columns_after) c.power_words.ensures refl in
    record {
      inside = omega (arith, last_le args.list.now args.marks (at.end - 1));
      room = (sparse_room _ _ _ _ _ _ _ columns).1;
      columns = sparse_skips _ _ _ _ _ _ _ _ _ _ columns (omega (arith, length-take c.chain_limit.result args.taken.spread)) refl c.marked_end-end-in-loop-end.ensures;
    }

pub returns : goal.returns
returns c =
    sparse_ends _ _ _ _ _ _ _ c.loop-end.invariant.columns (omega arith)
    ∙ ap (λ (x : List ℕ). back x c.args.columns.now)
    (columns_limited _ _ _ _ _ _ _ c.args.taken.spread _ c.chain_limit.ensures c.slice_limit-slices.ensures (search rules))
