-- `ties_stretch` meets its contract: the stretch that its companion names, where it stands.
use Rattle.slice_rows.proofs.PlaceLaws.{row_lent, ties_inside_set}
use Rattle.slice_rows.proofs.ties_stretch.Goals as goal

pub returns : goal.returns
returns c =
    let stretch = c.stretch_at.ensures in
    let lent = row_lent _ _ _ _ c.ties_place.result _ c.ties_place.ensures (ties_inside_set _) (stretch.bytes, stretch.place) in
    record { bytes = lent.0; place = lent.1 }
