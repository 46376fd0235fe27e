-- `is_bad_width` meets its contract: its code is the definition.
use borrow.Author.Rules.{rules}
use Rattle.word.specs.Word.{bad_width}
use Rattle.word.proofs.is_bad_width.Goals as goal

pub returns : goal.returns
unfolding bad_width
returns c = search rules
