-- `write_plan` meets its contract: each way out by its law.
use lib.ListN.{length}
use borrow.Author.Rules.{rules}
use Rattle.plan_writer.proofs.WriteLaws.{ends_refused, ends_written, write_room}
use Rattle.plan_writer.proofs.write_plan.Goals as goal

pub returns-in_err-check_content : goal.returns-in_err-check_content
returns-in_err-check_content c =
    let ends = ends_refused _ _ c.from_residual.result _ (search rules) c.in_err-check_content.ensures in
    record { answer = ends.0; output = ends.1 }

pub write_file-requires : goal.write_file-requires
write_file-requires c = write_room _ (length c.args.out.now) c.in_ok-check_content.ensures

pub returns : goal.returns
returns c =
    let ends = ends_written _ _ _ _ c.in_ok-check_content.ensures c.write_file.ensures c.plan_length.ensures in
    record { answer = ends.0; output = ends.1 }
