-- `value_row` meets its contract: the stretch that its companion names, where it stands.
use Rattle.slice_rows.proofs.PlaceLaws.{row_lent, value_inside_set}
use Rattle.slice_rows.proofs.value_row.Goals as goal

pub returns : goal.returns
returns c =
    let stretch = c.stretch_at.ensures in
    let lent = row_lent _ _ _ _ c.value_place.result _ c.value_place.ensures (value_inside_set _ _) (stretch.bytes, stretch.place) in
    record { bytes = lent.0; place = lent.1 }
