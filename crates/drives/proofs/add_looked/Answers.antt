-- `add_looked` meets its contract, for rows that are all there and for any.
use native.Mathlib.Omega.{arith}
use borrow.Author.Rules.{rules}
use Rattle.drives.proofs.DriveLaws.{whole_looked}
use Rattle.drives.proofs.add_looked.Goals as goal

pub overflow_add-rows : goal.overflow_add-rows
overflow_add-rows c = record { fits = omega (arith, (c.are_whole.ensures c.if-are_whole.true).0) }

pub add_of_whole-requires : goal.add_of_whole-requires
add_of_whole-requires c = (search rules, (c.are_whole.ensures c.if-are_whole.true).1)

pub returns-then-are_whole : goal.returns-then-are_whole
returns-then-are_whole c =
    let args = c.args in
    whole_looked _ args.list.now _ _ args.rows args.from args.s (c.are_whole.ensures c.if-are_whole.true).0 c.add_of_whole.ensures
