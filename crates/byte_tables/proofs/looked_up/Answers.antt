use Rattle.byte_tables.proofs.TableLaws.{looked_start, looked_turn}
use Rattle.byte_tables.proofs.looked_up.Goals as goal

pub loop-b-init : goal.loop-b-init
loop-b-init c = looked_start _ _

pub loop-b-preserved : goal.loop-b-preserved
loop-b-preserved c = looked_turn _ _ _ _ c.loop-b.invariant
