-- `print_plan` meets its contract: the lines are there, or the refusal's.
use mathlib.Core.Path.{ap, ◌∙◌}
use borrow.Author.Rules.{rules}
use Rattle.word.specs.Reply.{refusal}
use Rattle.plan_text.proofs.PrintLaws.{prints_refused}
use Rattle.plan_text.proofs.print_plan.Goals as goal

pub returns-in-Ok : goal.returns-in-Ok
returns-in-Ok c =
    let left = c.in-Ok.ensures in
    record { count = left.lines.0; text = left.lines.1; working = left.working; words = left.words }

pub returns-in-Err : goal.returns-in-Err
returns-in-Err c =
    let left = c.in-Err.ensures in
    let line =
    prints_refused _ _ _ c.args.out.now _ _ _ _ (ap refusal c.number.ensures ∙ left.lines.0) left.lines.1 (search rules) c.put_refused_line.ensures in
    record { count = line.0; text = line.1; working = left.working; words = left.words }
