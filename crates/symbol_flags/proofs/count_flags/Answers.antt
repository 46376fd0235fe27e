-- `count_flags` meets its contract: a sum over a list is one over its places, and there are fewer places than a word can count.
use mathlib.Core.Bool.{cond}
use mathlib.Core.Path.{◌∙◌}
use native.Mathlib.Omega.{arith}
use borrow.Author.Tests.{tests}
use lib.Dec.{eqb}
use Rattle.std.proofs.Common.{rules}
use Rattle.std.proofs.lemmas.Iterator.{YieldsList-from_slice, YieldsList-from_map}
use Rattle.std.proofs.lemmas.Iterator.Adapters.{fits_from_length, at_most_from_yields_List}
use Rattle.std.proofs.lemmas.Iterator.Consumers.{YieldsList-at, sum_by_from_yields_List}
use Rattle.symbol_flags.proofs.FlagLaws.{counted_list}
use Rattle.symbol_flags.proofs.count_flags.Goals as goal

pub sum-requires-clause-fits : goal.sum-requires-clause-fits
sum-requires-clause-fits c =
    fits_from_length _ _ 18446744073709551615 _
    (at_most_from_yields_List (YieldsList-at c.map.ensures.source (YieldsList-from_slice c.args.flags.now cc)) (omega arith)) c.map.ensures.closure (omega arith)
    (λ x r q k. search (rules, tests))

pub returns : goal.returns
returns c =
    sum_by_from_yields_List (λ x. cond (eqb x 0) 0 1) c.args.flags.now c.map.result c.sum.result c.sum.ensures.ran
    (YieldsList-from_map _ (λ x. cond (eqb x 0) 0 1) (YieldsList-at c.map.ensures.source (YieldsList-from_slice c.args.flags.now cc)) c.map.ensures.closure
    (λ x r q k. search (rules, tests)))
    ∙ counted_list (λ x. cond (eqb x 0) 0 1) c.args.flags.now
