-- `put_word_line` meets its contract: its name, then three numbers.
use Rattle.plan_lines.proofs.PieceLaws.{word_line_put}
use Rattle.plan_lines.proofs.put_word_line.Goals as goal

pub returns : goal.returns
returns c =
    let name = c.put-i_at.ensures in
    let index = c.put_number-w_at.ensures in
    let word = c.put_number-bit_at.ensures in
    word_line_put _ _ _ name index word c.put_number.ensures
