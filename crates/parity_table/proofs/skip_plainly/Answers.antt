-- `skip_plainly` meets its contract: the columns of the even blocks and those counted behind them are all that are even with every word.
use mathlib.Core.Path.{◌∙◌}
use borrow.Author.Rules.{rules}
use borrow.Author.Tests.{tests}
use Rattle.combinations.specs.Combination.{x_free}
use Rattle.std.proofs.lemmas.Iterator.{YieldsList-from_slice}
use Rattle.std.proofs.lemmas.Iterator.Consumers.{YieldsList-at, count_from_yields_List}
use Rattle.std.proofs.lemmas.Iterator.Search.{YieldsList-from_take_while}
use Rattle.parity_table.proofs.SkipLaws.{run_prefix, from_part, run_behind}
use Rattle.parity_table.proofs.skip_plainly.Goals as goal

pub returns : goal.returns
returns c =
    run_behind (x_free c.args.words.now) _ _ _ _ _ (from_part c.args.columns.now c.args.from c.min.result c.min.ensures) c.even_blocks-even.ensures.within
    c.even_blocks-even.ensures.even
    (count_from_yields_List c.take_while.result _ c.count-behind.ensures.ran
    (YieldsList-from_take_while _ (x_free c.args.words.now) (YieldsList-at c.take_while.ensures.source (YieldsList-from_slice _ c.iter.ensures.rest))
    c.take_while.ensures.closure c.take_while.ensures.done (λ x b q k. search (rules, tests)))
    ∙ run_prefix _ _)
