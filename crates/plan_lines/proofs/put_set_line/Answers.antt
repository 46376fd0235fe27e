-- `put_set_line` meets its contract: its name, then four numbers.
use Rattle.plan_lines.proofs.PieceLaws.{set_line_put}
use Rattle.plan_lines.proofs.put_set_line.Goals as goal

pub returns : goal.returns
returns c =
    let name = c.put-m_at.ensures in
    let width = c.put_number-n_at.ensures in
    let chains = c.put_number-s_at.ensures in
    let slices = c.put_number-unknowns_at.ensures in
    set_line_put _ _ _ _ name width chains slices c.put_number.ensures
