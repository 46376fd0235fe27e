-- `read_short_word` meets its contract: w is the number of the bytes passed, from the last on, and the others are left.
use mathlib.Core.Path.{◌≡◌}
use Prim.Native.Nat.{◌+◌, ◌*◌, ◌^◌}
use lib.ListN.{length}
use Rattle.numbers.specs.Bytes.{number, word_at}
use Rattle.numbers.proofs.read_short_word.Given as goal

abbrev pub invariant-loop-b : goal.invariant-loop-b
invariant-loop-b l = let left = l.b-iterator.iter.rest.now in number left + 256 ^ length left * l.w ≡ word_at l.s l.i
