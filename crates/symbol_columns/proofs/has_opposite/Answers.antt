-- `has_opposite` meets its contract: every entry is asked.
use mathlib.Core.Path.{◌∙◌}
use mathlib.Core.Bool.{not}
use native.Mathlib.Omega.{arith}
use borrow.Author.Rules.{rules}
use borrow.Author.Tests.{tests}
use lib.Dec.{eqb}
use Rattle.std.proofs.lemmas.Iterator.{YieldsList-from_range}
use Rattle.std.proofs.lemmas.Iterator.Search.{any_from_yields_List}
use Rattle.ties.specs.Ties.{ties_in}
use Rattle.symbol_columns.proofs.SymbolLaws.{any_in_range}
use Rattle.symbol_columns.proofs.has_opposite.Goals as goal

pub returns : goal.returns
returns c =
    let e = ties_in c.args.ties.now c.args.count in
    any_from_yields_List (λ i. not (eqb (e.side i) 0)) _ _ c.any.result c.any.ensures.ran (YieldsList-from_range 0 c.args.count c.args.count (cc) (omega arith))
    (λ x b q k. search (rules, tests))
    ∙ any_in_range (λ i. not (eqb (e.side i) 0)) c.args.count
