use native.Mathlib.Omega.{arith}
use Rattle.byte_tables.proofs.TableLaws.{right_starts, right_turns, right_ends}
use Rattle.byte_tables.proofs.fill_table.Goals as goal

pub loop-b-init : goal.loop-b-init
loop-b-init c = right_starts _ _

pub loop-b-preserved : goal.loop-b-preserved
loop-b-preserved c = right_turns _ c.loop-b.table _ c.loop-b.b c.loop-b.invariant c.fill_byte.ensures

pub returns : goal.returns
returns c = right_ends _ _ _ (omega arith) c.loop-b.invariant
