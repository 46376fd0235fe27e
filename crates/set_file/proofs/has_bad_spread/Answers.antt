use native.Mathlib.Omega.{arith}
use Rattle.set_file.proofs.CodeLaws.{folded_start, folded_turn, folded_end}
use Rattle.set_file.proofs.has_bad_spread.Goals as goal

pub loop-c-init : goal.loop-c-init
loop-c-init c = folded_start _ _ _

pub loop-c-preserved : goal.loop-c-preserved
loop-c-preserved c =
    let at = c.loop-c in
    folded_turn _ _ _ at.seen at.none at.c _ at.invariant (omega arith) c.eight_bytes-w.ensures

pub returns : goal.returns
returns c =
    let at = c.loop-c in
    folded_end _ _ _ at.seen at.none at.c _ c.register_width-m.ensures c.chain_count-n.ensures at.invariant (omega arith) c.is_beyond.ensures
