use native.Mathlib.Omega.{arith}
use Rattle.marked_rows.proofs.LastLaws.{seeking_start, seeking_turn, seeking_found, seeking_none}
use Rattle.marked_rows.proofs.last_by.Goals as goal

pub loop-row-init : goal.loop-row-init
loop-row-init g c = λ l r k. seeking_start l r _

pub returns-then-count-ne0 : goal.returns-then-count-ne0
returns-then-count-ne0 g c = λ l r k. seeking_found l r _ _ _ (c.loop-row.invariant l r k) c.loop-row-test.true (k _ _ (omega arith) c.count_of-count.ensures) c.if-count-ne0.true

pub loop-row-preserved : goal.loop-row-preserved
loop-row-preserved g c = λ l r k. seeking_turn l r _ _ _ (c.loop-row.invariant l r k) c.loop-row-test.true (k _ _ (omega arith) c.count_of-count.ensures) c.if-count-ne0.false

pub returns : goal.returns
returns g c = λ l r k. seeking_none l r _ _ (c.loop-row.invariant l r k) (omega arith)
