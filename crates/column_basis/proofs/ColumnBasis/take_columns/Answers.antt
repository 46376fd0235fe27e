use Rattle.column_basis.proofs.LoopLaws.{taking_start, taking_turn, taking_empty, taking_end}
use borrow.Author.Rules.{rules}
use Rattle.column_basis.proofs.ColumnBasis.take_columns.Goals as goal

pub loop-column-init : goal.loop-column-init
loop-column-init c = λ l h. taking_start _ l _ _ h

pub returns-then-self : goal.returns-then-self
returns-then-self c = λ l h. taking_empty _ l _ _ _ (c.loop-column.invariant l h) c.if-self.true

pub loop-column-preserved : goal.loop-column-preserved
loop-column-preserved c = λ l h. taking_turn _ l _ _ _ _ _ (c.loop-column.invariant l h) (search rules) c.add.ensures

pub returns : goal.returns
returns c = λ l h. taking_end _ l _ _ _ (c.loop-column.invariant l h) (search rules)
