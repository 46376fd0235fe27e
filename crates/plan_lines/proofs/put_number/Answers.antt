-- `put_number` meets its contract: the digits, then what ends them.
use Rattle.text.proofs.PutLaws.{put_then}
use Rattle.plan_lines.proofs.put_number.Goals as goal

pub returns : goal.returns
returns c = put_then c.put_decimal-behind.ensures c.put.ensures
