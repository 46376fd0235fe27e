-- `eight_bytes` meets its contract: eight bytes make the word.
use mathlib.Core.Path.{sym, ◌∙◌}
use native.Mathlib.Omega.{arith}
use Rattle.numbers.specs.Bytes.{number}
use Rattle.numbers.proofs.ByteLaws.{word_of_bytes}
use Rattle.numbers.proofs.eight_bytes.Goals as goal

pub returns : goal.returns
unfolding number
returns c = c.from_le_bytes.ensures ∙ sym (word_of_bytes c.args.s.now c.args.i ∙ omega arith)
