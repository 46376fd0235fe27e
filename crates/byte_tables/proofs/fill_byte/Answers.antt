use native.Mathlib.Omega.{arith}
use Rattle.byte_tables.proofs.TableLaws.{filled_starts, filled_turns, filled_ends}
use Rattle.byte_tables.proofs.fill_byte.Goals as goal

pub loop-t-preserved : goal.loop-t-preserved
loop-t-preserved c =
    λ l k. filled_turns _ l _ _ c.loop-t.table _ c.loop-t.t _ (omega arith) (c.loop-t.invariant l k) c.word_at-w.ensures c.double_entries.ensures

pub returns : goal.returns
returns c =
    filled_ends _ _ _ _ _ c.loop-t.t (omega arith) (c.loop-t.invariant c.args.table.now (filled_starts _ c.args.table.now _ _ (omega (arith, c.requires.0))))
