-- `has_wrong_order` meets its contract: every entry but the last is asked.
use mathlib.Core.Path.{◌∙◌}
use native.Mathlib.Omega.{arith}
use borrow.Author.Rules.{rules}
use borrow.Author.Tests.{tests}
use Rattle.std.proofs.lemmas.Iterator.{YieldsList-from_range}
use Rattle.std.proofs.lemmas.Iterator.Search.{any_from_yields_List}
use mathlib.Core.Bool.{not}
use Prim.Native.Nat.{ℕ, ◌-◌}
use Rattle.ties.specs.Ties.{ties_in, precedes, wrong_order}
use Rattle.ties.proofs.EntryLaws.{any_entry}
use Rattle.ties.proofs.has_wrong_order.Goals as goal

pub returns : goal.returns
unfolding wrong_order
returns c =
    let given = c.args in
    let wrong = λ (i : ℕ). not (precedes (ties_in given.ties.now given.count) i) in
    any_from_yields_List wrong _ _ c.any.result c.any.ensures.ran (YieldsList-from_range 0 (given.count - 1) (given.count - 1) (cc) (omega arith)) (λ x b q k. search (rules, tests))
    ∙ any_entry wrong (given.count - 1)
