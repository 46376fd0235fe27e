-- `stretch_at` meets its contract: the part that the place names, where it stands.
use mathlib.Core.Path.{refl}
use Rattle.slice_rows.proofs.PlaceLaws.{stretch_declined, stretch_there}
use Rattle.slice_rows.proofs.stretch_at.Goals as goal

pub returns-in_default : goal.returns-in_default
returns-in_default c =
    let lent = stretch_declined c.args.set.now c.args.set.ref_ptr c.args.place _ c.in_default.is in
    record { bytes = lent.bytes; place = lent.place }

pub returns : goal.returns
returns c =
    let there = stretch_there c.args.set.now _ _ _ _ _ c.args.set.ref_ptr.1 c.in-Ok.is c.min-at.ensures c.moved-end.ensures refl in
    record { bytes = there.0; place = (refl, there.1) }
