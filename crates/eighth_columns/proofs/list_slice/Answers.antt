-- `list_slice` meets its contract: the words of the marked cells are listed, and advanced for the clocks between.
use Rattle.std.proofs.Common.{refl, length}
use Rattle.sparse_columns.proofs.SparseLaws.{end_changed}
use Rattle.eighth_columns.proofs.list_slice.Goals as goal

pub returns : goal.returns
returns c =
    let list = c.list_row-place in
    record { place = list.ensures.value; list = end_changed _ _ c.args.columns.now list.new.columns _ list.result (length list.new.columns) list.ensures.value list.ensures.columns_after refl c.advance_few.ensures.looked }
