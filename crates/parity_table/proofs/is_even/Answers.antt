-- `is_even` meets its contract.
use mathlib.Core.Path.{◌∙◌}
use lib.Dec.{eqb}
use borrow.Author.Rules.{rules}
use borrow.Author.Tests.{tests}
use Rattle.word.specs.Word.{parity}
use Rattle.std.proofs.lemmas.Iterator.{YieldsList-from_slice}
use Rattle.std.proofs.lemmas.Iterator.Search.{all_from_yields_List}
use Rattle.parity_table.proofs.SkipLaws.{x_free_each}
use Rattle.parity_table.proofs.is_even.Goals as goal

pub returns : goal.returns
returns c =
    all_from_yields_List (λ w. eqb (parity c.args.column w) 0) _ _ _ c.all.ensures.ran (YieldsList-from_slice c.args.words.now cc) (λ x b q k. search (rules, tests))
    ∙ x_free_each _ _
