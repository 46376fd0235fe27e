-- `fill_by_eights` meets its contract: both ways to fill the list do.
use Rattle.eighth_columns.proofs.RaisedLaws.{raisable}
use Rattle.eighth_columns.proofs.fill_by_eights.Goals as goal

pub fill_raised-requires : goal.fill_raised-requires
fill_raised-requires c =
    let fits = raisable _ _ _ _ _ _ c.width_limit-width.ensures c.is_beyond.ensures c.has_bad_word.ensures c.if-width-is_beyond.false in
    record { le_m = fits.0; taps_bound = fits.1; spread_value = fits.2 }
