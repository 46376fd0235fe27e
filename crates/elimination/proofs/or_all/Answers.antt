-- `or_all` meets its contract: the fold is the OR of all words.
use lib.Bits.{bit_or}
use borrow.Author.Rules.{rules}
use borrow.Author.Tests.{tests}
use Rattle.std.proofs.lemmas.Iterator.{YieldsList-from_slice}
use Rattle.std.proofs.lemmas.Iterator.Consumers.{fold_from_yields_List}
use Rattle.elimination.proofs.LoopLaws.{or_beyond}
use Rattle.elimination.proofs.or_all.Goals as goal

pub returns : goal.returns
returns c =
    or_beyond c.args.words.now c.fold.result
    (fold_from_yields_List _ bit_or 0 c.fold.result c.fold.ensures.ran (YieldsList-from_slice c.args.words.now cc) (λ a x b q k. search (rules, tests)))
