-- `has_wrong_sides` meets its contract: every entry is asked.
use mathlib.Core.Path.{◌∙◌}
use native.Mathlib.Omega.{arith}
use borrow.Author.Rules.{rules}
use borrow.Author.Tests.{tests}
use Rattle.std.proofs.lemmas.Iterator.{YieldsList-from_range}
use Rattle.std.proofs.lemmas.Iterator.Search.{any_from_yields_List}
use Prim.Native.Nat.{ℕ}
use lib.Dec.{ltb}
use Rattle.ties.specs.Ties.{ties_in, wrong_sides}
use Rattle.ties.proofs.EntryLaws.{any_entry}
use Rattle.ties.proofs.has_wrong_sides.Goals as goal

pub returns : goal.returns
unfolding wrong_sides
returns c =
    let given = c.args in
    let wrong = λ (i : ℕ). ltb 1 ((ties_in given.ties.now given.count).side i) in
    any_from_yields_List wrong _ _ c.any.result c.any.ensures.ran (YieldsList-from_range 0 given.count given.count (cc) (omega arith)) (λ x b q k. search (rules, tests))
    ∙ any_entry wrong given.count
