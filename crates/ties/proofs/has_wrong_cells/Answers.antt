-- `has_wrong_cells` meets its contract: every entry is asked.
use mathlib.Core.Path.{◌∙◌}
use native.Mathlib.Omega.{arith}
use borrow.Author.Rules.{rules}
use borrow.Author.Tests.{tests}
use Rattle.std.proofs.lemmas.Iterator.{YieldsList-from_range}
use Rattle.std.proofs.lemmas.Iterator.Search.{any_from_yields_List}
use Rattle.rows.specs.Lists.{cells_of}
use Rattle.ties.specs.Ties.{ties_in, wrong_cell, wrong_cells}
use Rattle.ties.proofs.EntryLaws.{any_entry}
use Rattle.ties.proofs.has_wrong_cells.Goals as goal

pub returns : goal.returns
unfolding wrong_cells
returns c =
    let given = c.args in
    let wrong = wrong_cell given.s given.n (cells_of given.list.now given.marks) (ties_in given.ties.now given.count) in
    any_from_yields_List wrong _ _ c.any.result c.any.ensures.ran (YieldsList-from_range 0 given.count given.count (cc) (omega arith)) (λ x b q k. search (rules, tests))
    ∙ any_entry wrong given.count
