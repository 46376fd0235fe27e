use Rattle.std.proofs.Common.{refl, rules, arith}
use Rattle.eight_clocks.proofs.EightLaws.{table_room, table_starts, table_turns, table_ends}
use Rattle.eight_clocks.proofs.eight_on.Goals as goal

pub loop-i-init : goal.loop-i-init
loop-i-init c = λ wide. table_starts _ wide _ _ refl refl

pub double_entries-requires : goal.double_entries-requires
double_entries-requires c = table_room c.loop-i.table c.loop-i.i (omega arith) (search rules)

pub loop-i-preserved : goal.loop-i-preserved
loop-i-preserved c = λ wide. table_turns _ wide _ _ _ _ c.loop-i.i (omega arith) (c.loop-i.invariant wide) c.double_entries.ensures c.next_state-bit.ensures

pub returns : goal.returns
returns c = λ wide. table_ends _ wide _ _ _ (omega arith) (c.loop-i.invariant wide)
