-- `plan_words` meets its contract: it hands on what making the words answers.
use mathlib.Core.Path.{◌≡◌, ap, ◌∙◌}
use borrow.Author.Rules.{rules}
use Rattle.std.specs.Prelude.{Err}
use Rattle.planner.specs.Planning.{said_worded}
use Rattle.planner.proofs.plan_words.Goals as goal

pub returns-in_err-made : goal.returns-in_err-made
returns-in_err-made c =
    let is : c.from_residual.result ≡ Err c.in_err-made.field-0.0 = search rules in
    let left = c.in_err-made.ensures in
    record { answer = ap said_worded is ∙ left.answer; working = left.working; words = left.words }

pub returns : goal.returns
returns c =
    let left = c.in_ok-made.ensures in
    record { answer = left.answer; working = left.working; words = left.words }
