-- `put_end_line` meets its contract: its name, then a number.
use Rattle.plan_lines.proofs.PieceLaws.{end_line_put}
use Rattle.plan_lines.proofs.put_end_line.Goals as goal

pub returns : goal.returns
returns c =
    let name = c.put-q_at.ensures in
    end_line_put _ name c.put_number.ensures
