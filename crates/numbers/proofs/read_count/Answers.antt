-- `read_count` meets its contract: past the end the count is 0, else it is the two bytes, the second perhaps past the end.
use mathlib.Core.Path.{sym}
use native.Mathlib.Omega.{arith}
use lib.Dec.{lit<}
use Rattle.numbers.proofs.ByteLaws.{number_at_end, count_of_bytes}
use Rattle.numbers.proofs.read_count.Goals as goal

pub returns-then-s-i : goal.returns-then-s-i
returns-then-s-i c = (sym (number_at_end 2 _ _ c.if-s-i.true), lit< tt)

pub returns : goal.returns
returns c = rw count_of_bytes (omega arith)
