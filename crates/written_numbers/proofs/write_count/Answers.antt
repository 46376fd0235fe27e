-- `write_count` meets its contract: past the end nothing is written, else the two bytes in order.
use mathlib.Core.Path.{sym}
use native.Mathlib.Numerals.{add-one}
use Rattle.numbers.specs.Bytes.{bytes_of}
use Rattle.numbers.proofs.ByteLaws.{sets_past_end}
use Rattle.written_numbers.proofs.write_count.Goals as goal

pub returns-then-out-i : goal.returns-then-out-i
returns-then-out-i c = sym (sets_past_end (bytes_of 2 c.args.x) _ _ c.if-out-i.true)

pub returns : goal.returns
unfolding bytes_of
returns c = cc (add-one c.args.i)
