use Rattle.std.proofs.Common.{◌≡◌, ◌∙◌, take, length, arith}
use Rattle.std.proofs.lemmas.List.{length-take-le, get_or-take}
use Rattle.slice_signing.proofs.RunLaws.{running_starts, running_turns, running_ends}
use Rattle.slice_signing.proofs.sign_by_drives.Goals as goal

pub loop-drive-init : goal.loop-drive-init
loop-drive-init c = λ ws l rows h. running_starts _ _ _ _ _ _ c.requires.0

pub loop-drive-preserved : goal.loop-drive-preserved
loop-drive-preserved c =
    let long : length (take c.args.s c.args.drives.now) ≡ c.args.s = length-take-le _ _ (omega arith) in
    λ ws l rows h. running_turns _ _ _ _ _ _ _ _ _ _ _ _ _ _ _ (c.loop-drive.invariant ws l rows h) c.clock_driven-held.ensures
    (get_or-take c.args.s c.args.drives.now c.loop-drive.drive-index 0 (omega arith) ∙ h c.loop-drive.drive-index (omega arith))

pub returns : goal.returns
returns c =
    let long : length (take c.args.s c.args.drives.now) ≡ c.args.s = length-take-le _ _ (omega arith) in
    λ ws l rows h. running_ends _ _ _ _ _ _ _ _ _ _ _ (c.loop-drive.invariant ws l rows h) (omega arith)
