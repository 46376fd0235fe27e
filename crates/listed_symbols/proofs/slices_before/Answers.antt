-- `slices_before` meets its contract: all rows are counted, or those from row `at` on.
use mathlib.Core.Path.{◌≡◌}
use Prim.Native.Nat.{◌+◌, ◌≤◌}
use native.Mathlib.Omega.{arith}
use borrow.Author.Rules.{rules}
use Rattle.rows.specs.Lists.{cells_of}
use Rattle.rows.specs.Marks.{total}
use Rattle.rows.proofs.CellLaws.{place_small}
use Rattle.listed_symbols.proofs.BeforeLaws.{rows_few, rows_behind}
use Rattle.listed_symbols.proofs.slices_before.Goals as goal
use Rattle.listed_symbols.proofs.slices_before.Goals.{After-count_marks-2}

pub returns-then-t-at : goal.returns-then-t-at
returns-then-t-at c =
    let args = c.args in
    (c.count_marks.ensures, rows_few args.list.now args.rows args.t _ (search rules) c.count_marks.ensures)

pub overflow_mul-stride : goal.overflow_mul-stride
overflow_mul-stride c = record { fits = omega (arith, place_small c.args.rows.stride c.args.at (omega arith) (omega arith)) }

-- the marked cells of all rows before row t
counted : (c : After-count_marks-2)
    → (c.args.before + c.count_marks-2.result
    ≡ total c.args.t (λ v. total 256 (cells_of c.args.list.now c.args.rows v)))
    × (c.args.before + c.count_marks-2.result ≤ 16777216)
counted c =
    let found =
    rows_behind c.args.list.now c.args.rows c.args.at c.args.t _ _ c.part-rest.result.now c.if-t-at.false c.requires
    c.part-rest.ensures c.count_marks-2.ensures
    in
    (found, rows_few c.args.list.now c.args.rows c.args.t _ (search rules) found)

pub overflow_add-result : goal.overflow_add-result
overflow_add-result c = record { fits = omega (arith, (counted (goal.at.overflow_add-result c).After-count_marks-2).1) }

pub returns : goal.returns
returns c = counted c
