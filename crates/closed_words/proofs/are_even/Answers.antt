-- `are_even` meets its contract.
use mathlib.Core.Path.{refl}
use Rattle.closed_words.proofs.MarkedLaws.{row_even}
use Rattle.closed_words.proofs.are_even.Goals as goal

pub returns : goal.returns
returns c =
    let args = c.args in
    row_even _ args.words.now _ _ args.row.now _ _ refl c.list_row-place.ensures.value c.list_row-place.ensures.columns_after c.first_odd.ensures
