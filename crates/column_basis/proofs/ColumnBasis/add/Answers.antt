-- `ColumnBasis::add` meets its contract, with a word that is odd with the column and without.
use mathlib.Core.Path.{refl}
use lib.Count.{count_trailing_zeros}
use Rattle.word.proofs.LowestLaws.{Lowest, trailing_lowest}
use Rattle.column_basis.proofs.LoopLaws.{column_none, column_one, basis_one}
use borrow.Author.Rules.{rules}
use Rattle.column_basis.proofs.ColumnBasis.add.Goals as goal
use Rattle.column_basis.proofs.ColumnBasis.add.Goals.{Else-rest-eq0}

pub returns-then-rest-eq0 : goal.returns-then-rest-eq0
returns-then-rest-eq0 c = λ l h. column_none l _ _ _ _ h c.reduced-rest.ensures c.if-rest-eq0.true

lowest : (c : Else-rest-eq0) → Lowest c.reduced-rest.result (count_trailing_zeros 64 c.reduced-rest.result)
lowest c = trailing_lowest _ _ c.if-rest-eq0.false (search rules) refl

pub invariant_of-self : goal.invariant_of-self
invariant_of-self c = record { order = basis_one _ _ _ _ c.args.self.now.order (lowest (goal.at.invariant_of-self c).Else-rest-eq0) }

pub returns : goal.returns
returns c = λ l h. column_one l _ _ _ _ _ h c.reduced-rest.ensures (lowest (goal.at.returns c).Else-rest-eq0) c.args.self.now.order.long
