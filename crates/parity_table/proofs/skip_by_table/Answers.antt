-- `skip_by_table` meets its contract: the columns counted are those before the first for which the table doesn't give 0.
use mathlib.Core.Path.{ap, ◌∙◌}
use Prim.Native.Nat.{ℕ, ◌+◌}
use lib.Dec.{eqb}
use borrow.Author.Rules.{rules}
use borrow.Author.Tests.{tests}
use Rattle.byte_tables.specs.Table.{looked}
use Rattle.std.proofs.lemmas.Iterator.{YieldsList-from_slice}
use Rattle.std.proofs.lemmas.Iterator.Consumers.{YieldsList-at, count_from_yields_List}
use Rattle.std.proofs.lemmas.Iterator.Search.{YieldsList-from_take_while}
use Rattle.parity_table.specs.Table.{run_of}
use Rattle.parity_table.proofs.SkipLaws.{run_prefix, from_part}
use Rattle.parity_table.proofs.skip_by_table.Goals as goal

pub returns : goal.returns
returns c =
    ap (λ (n : ℕ). c.args.from + n)
    (count_from_yields_List c.take_while.result _ c.count-even.ensures.ran
    (YieldsList-from_take_while _ (λ x. eqb (looked c.args.table.now x 8) 0)
    (YieldsList-at c.take_while.ensures.source (YieldsList-from_slice _ c.iter.ensures.rest))
    c.take_while.ensures.closure c.take_while.ensures.done (λ x b q k. search (rules, tests)))
    ∙ run_prefix _ _ ∙ ap (run_of (λ x. eqb (looked c.args.table.now x 8) 0)) (from_part c.args.columns.now c.args.from c.min.result c.min.ensures))
