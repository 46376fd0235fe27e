-- `cut_slices` meets its contract: the pass over the slices is that of the set.
use mathlib.Core.Path.{refl}
use borrow.Author.Rules.{rules}
use Rattle.unclocking.proofs.UnclockLaws.{eight_back_same}
use Rattle.cutter.proofs.SliceLaws.{seen_sound, sliced_set}
use Rattle.cutter.proofs.cut_slices.Goals as goal

pub returns : goal.returns
returns c =
    let table = c.eight_back-table in
    let rows = c.mark_rows-marks.ensures in
    let slices = c.slice_limit-slices.ensures in
    let chains = c.chain_limit-chains.ensures in
    λ taken some.
    sliced_set _ _ taken _ rows _ _ _ (refl, search rules) chains slices _ _ _
    (c.pass_slices.ensures (seen_sound _ _ taken _ rows _ _ _ (refl, search rules) chains slices) (eight_back_same _ _ _ _ table.result table.ensures) some)
