use mathlib.Core.Path.{◌≡◌, sym, ap, ◌∙◌}
use Prim.Native.Nat.{◌+◌, ◌*◌, ◌/◌}
use native.Mathlib.Omega.{arith}
use lib.Bits.{bit_xor}
use Rattle.chains.specs.Table.{looked_up}
use Rattle.chains.proofs.TableLaws.{looked_none}
use Rattle.chains.proofs.looked_up.Goals as goal

pub loop-i-init : goal.loop-i-init
loop-i-init c = sym (looked_none _ _)

pub loop-i-preserved : goal.loop-i-preserved
loop-i-preserved c =
    let next : 8 * c.loop-i.i + 8 ≡ 8 * (c.loop-i.i + 1) = omega arith in
    ap (λ x. bit_xor x c.looked_eight-drive.result) c.loop-i.invariant ∙ c.looked_eight-drive.ensures
    ∙ ap (looked_up c.args.table.now c.args.row.now) next

pub returns : goal.returns
returns c =
    let args = c.args in
    let e : c.loop-i.i ≡ c.min-count.result / 8 = omega arith in
    ap (λ x. bit_xor x c.looked_rest.result) (c.loop-i.invariant ∙ ap (λ i. looked_up args.table.now args.row.now (8 * i)) e) ∙ c.looked_rest.ensures
    ∙ ap (looked_up args.table.now args.row.now) c.min-count.ensures
