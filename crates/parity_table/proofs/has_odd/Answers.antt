-- `has_odd` meets its contract: where the OR of the parities is 0, each of them is.
use mathlib.Core.Path.{sym, ◌∙◌}
use lib.Bits.{bit_or}
use borrow.Author.Rules.{rules}
use borrow.Author.Tests.{eqb-true, not-false, tests}
use Rattle.word.specs.Word.{parity}
use Rattle.std.proofs.lemmas.Iterator.{YieldsList-from_slice}
use Rattle.std.proofs.lemmas.Iterator.Consumers.{fold_from_yields_List}
use Rattle.parity_table.proofs.SkipLaws.{none_odd_fold}
use Rattle.parity_table.proofs.has_odd.Goals as goal

pub returns : goal.returns
returns c =
    λ e.
    none_odd_fold c.args.w c.args.columns.now
    (sym
    (fold_from_yields_List _ (λ a x. bit_or a (parity x c.args.w)) _ _ c.fold-odd.ensures.ran (YieldsList-from_slice c.args.columns.now cc) (λ a x b q k. search (rules, tests)))
    ∙ eqb-true _ 0 (not-false _ e))
