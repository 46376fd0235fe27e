-- `count_words` meets its contract.
use Rattle.marked_rows.proofs.CountLaws.{words_none}
use Rattle.marked_rows.proofs.count_words.Goals as goal

pub returns : goal.returns
returns c = words_none _ _ _ _ c.if-is_marked.false
