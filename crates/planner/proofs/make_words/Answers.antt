-- `make_words` meets its contract: the set is refused, or there are no words, or they are the set's.
use borrow.Author.Rules.{rules}
use Rattle.planner.proofs.CallLaws.{words_unread}
use Rattle.planner.proofs.make_words.Goals as goal

pub returns-in_err-taken : goal.returns-in_err-taken
returns-in_err-taken c =
    let ends = words_unread _ c.args.working.now c.args.words.now c.from_residual.result _ (search rules) c.in_err-taken.ensures.answer in
    record { taken = search rules; answer = ends.0; working = ends.1.0; words = ends.1.1 }
