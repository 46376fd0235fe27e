use mathlib.Core.Path.{refl}
use native.Mathlib.Omega.{arith}
use Rattle.chains.proofs.TableLaws.{made_length, made_starts, made_group, made_ends}
use Rattle.chains.proofs.half_bytes.Goals as goal

pub loop-g-init : goal.loop-g-init
loop-g-init c = (refl, made_starts c.args.spread.now _ refl)

pub loop-g-preserved : goal.loop-g-preserved
loop-g-preserved c =
    let k =
    made_group _ _ _ _ _ _ c.loop-g.g _ _ _ _ c.loop-g.invariant.1 c.word_at.ensures
    c.word_at-in-loop-g.ensures c.word_at-in-loop-g-2.ensures c.word_at-in-loop-g-3.ensures
    c.double_entries.ensures c.double_entries-in-loop-g.ensures
    c.double_entries-in-loop-g-2.ensures c.double_entries-in-loop-g-3.ensures in
    (made_length _ _ _ k, k)

pub returns : goal.returns
returns c = made_ends _ _ _ c.loop-g.invariant.1 (omega arith)
