use native.Mathlib.Omega.{arith}
use Rattle.rows.proofs.RowLaws.{shared_start, shared_turn, shared_end}
use Rattle.rows.proofs.share_a_bit.Goals as goal

pub loop-i-init : goal.loop-i-init
loop-i-init c = shared_start _ _

pub loop-i-preserved : goal.loop-i-preserved
loop-i-preserved c = shared_turn _ _ _ _ c.loop-i.invariant

pub returns : goal.returns
returns c = shared_end _ _ _ _ _ c.min-common.ensures c.loop-i.invariant (omega arith)
