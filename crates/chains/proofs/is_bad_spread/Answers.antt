use mathlib.Core.Path.{ap, ◌∙◌}
use mathlib.Core.Bool.{Bool, ◌||◌}
use native.Mathlib.Omega.{arith}
use Rattle.chains.proofs.Laws.{folded_starts, folded_turns, folded_ends}
use Rattle.chains.proofs.is_bad_spread.Goals as goal

pub loop-w-init : goal.loop-w-init
loop-w-init c = folded_starts _ _

pub loop-w-preserved : goal.loop-w-preserved
loop-w-preserved c =
    let at = c.loop-w in
    folded_turns c.args.m c.args.spread.now at.has_zero at.seen at.w-index (omega arith) at.invariant

pub returns : goal.returns
returns c =
    let at = c.loop-w in
    ap (λ (b : Bool). at.has_zero || b) c.is_beyond.ensures
    ∙ folded_ends c.args.m c.args.spread.now at.has_zero at.seen at.w-index (omega arith) at.invariant
