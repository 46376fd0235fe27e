-- `fill_row` meets its contract: the row is listed as far as there is room, and what was listed is made its columns.
use mathlib.Core.Path.{refl, ap}
use native.Mathlib.Omega.{arith}
use Rattle.rows.specs.Row.{cell}
use Rattle.portions.proofs.PortionLaws.{changed_kept, changed_long, row_before, ready_at, columns_at}
use Rattle.portions.proofs.fill_row.Goals as goal

pub returns : goal.returns
returns c =
    let args = c.args in
    let fitted = c.list_fitting-fitted in
    let made = c.put_later in
    let slices = c.slice_limit-slices.ensures in
    record {
      fits = record {
        chains = fitted.ensures.chains;
        place = fitted.ensures.place;
        kept = changed_kept args.columns.now fitted.new.columns made.new.words _ _ fitted.ensures.long fitted.ensures.place fitted.ensures.kept refl;
        some = fitted.ensures.some;
      };
      row = (λ spread ws few first ready.
          columns_at _ _ _ _ _ _ _ _ slices
          (row_before _ _ _ _ ws args.words.now args.t c.requires (ready_at _ _ _ _ _ _ slices ready) few first args.columns.now fitted.new.columns made.new.words _ c.row_of-row.result.now _ _ (ap cell c.row_of-row.ensures) fitted.ensures (omega arith) made.ensures refl));
    }

pub shape_of-columns : goal.shape_of-columns
shape_of-columns c = changed_long c.args.columns.now c.list_fitting-fitted.new.columns c.put_later.new.words _ _ c.list_fitting-fitted.ensures.long c.list_fitting-fitted.ensures.place c.list_fitting-fitted.ensures.kept refl c.put_later.auto.words
