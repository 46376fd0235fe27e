-- `put_refused_line` meets its contract: its name, then a number.
use Rattle.plan_lines.proofs.PieceLaws.{refused_line_put}
use Rattle.plan_lines.proofs.put_refused_line.Goals as goal

pub returns : goal.returns
returns c =
    let name = c.put-number_at.ensures in
    refused_line_put _ name c.put_number.ensures
