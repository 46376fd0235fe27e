-- `add_column` meets its contract, with a pivot and without.
use Rattle.column_step.proofs.PivotLaws.{added_none, added_one}
use borrow.Author.Rules.{rules}
use Rattle.column_step.proofs.add_column.Goals as goal

pub returns-then-words-at : goal.returns-then-words-at
returns-then-words-at c = let none = added_none _ _ _ c.first_odd-at.ensures (search rules) in record { count = none.0; list = none.1 }

pub returns : goal.returns
returns c =
    let one = added_one _ _ _ _ c.first_odd-at.ensures (search rules) (search rules) c.drop_pivot.ensures in
    record { count = one.0; list = one.1 }
