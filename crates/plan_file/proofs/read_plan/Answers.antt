-- `read_plan` meets its contract: each way out by its law.
use borrow.Author.Rules.{rules}
use Rattle.plan_file.proofs.CallLaws.{ends_unsound, ends_short, sound_words, ends_read}
use Rattle.plan_file.proofs.read_plan.Goals as goal

pub returns-in_err-head : goal.returns-in_err-head
returns-in_err-head c =
    let ends = ends_unsound _ c.args.words.now c.from_residual.result _ (search rules) c.in_err-head.ensures in
    record { answer = ends.0; list = ends.1 }

pub returns-then-is_short : goal.returns-then-is_short
returns-then-is_short c =
    let ends = ends_short _ c.args.words.now _ c.in_ok-head.ensures c.if-is_short.true in
    record { answer = ends.0; list = ends.1 }

pub copy_words-requires : goal.copy_words-requires
copy_words-requires c = sound_words _ c.args.words.now _ c.in_ok-head.ensures c.if-is_short.false

pub returns : goal.returns
returns c =
    let ends = ends_read _ c.args.words.now _ c.in_ok-head.ensures _ c.if-is_short.false c.copy_words.ensures in
    record { answer = ends.0; list = ends.1 }
