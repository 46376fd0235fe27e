-- `read_word` meets its contract: past the end the word is 0; where 8 bytes are left they make it, else `read_short_word`.
use mathlib.Core.Path.{sym}
use Rattle.numbers.proofs.ByteLaws.{number_at_end}
use Rattle.numbers.proofs.read_word.Goals as goal

pub returns-then-s-i : goal.returns-then-s-i
returns-then-s-i c = sym (number_at_end 8 _ _ c.if-s-i.true)

pub returns-then-s-i-ge8 : goal.returns-then-s-i-ge8
returns-then-s-i-ge8 c = c.eight_bytes.ensures

pub returns : goal.returns
returns c = c.read_short_word.ensures
