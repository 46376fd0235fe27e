-- `cleared_word` meets its contract, by the parity.
use Rattle.column_step.proofs.PivotLaws.{clear_even, clear_odd}
use Rattle.column_step.proofs.cleared_word.Goals as goal

pub returns-then-shared_parity-eq0 : goal.returns-then-shared_parity-eq0
returns-then-shared_parity-eq0 c = clear_even _ _ _ _ c.shared_parity.ensures c.if-shared_parity-eq0.true

pub returns-else-shared_parity-eq0 : goal.returns-else-shared_parity-eq0
returns-else-shared_parity-eq0 c = clear_odd _ _ _ _ c.shared_parity.ensures c.if-shared_parity-eq0.false
