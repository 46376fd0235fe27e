use mathlib.Core.Path.{◌≡◌, ap, ◌∙◌}
use native.Mathlib.Omega.{arith}
use lib.Bits.{xor_zero_r}
use Rattle.chains.specs.Table.{looked_up}
use Rattle.chains.proofs.TableLaws.{looked_turn}
use Rattle.chains.proofs.looked_rest.Goals as goal

pub loop-i-init : goal.loop-i-init
loop-i-init c = xor_zero_r _

pub loop-i-preserved : goal.loop-i-preserved
loop-i-preserved c =
    looked_turn _ _ _ (looked_up c.args.table.now c.args.row.now c.args.from) _ _ c.loop-i.invariant c.looked_byte-drive.ensures

pub returns : goal.returns
returns c =
    let args = c.args in
    let e : c.loop-i.i ≡ args.count = omega arith in
    c.loop-i.invariant ∙ ap (looked_up args.table.now args.row.now) e
