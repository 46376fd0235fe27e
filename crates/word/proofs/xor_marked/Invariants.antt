-- `xor_marked` meets its contract. The loop's invariant: with the words of the bits in `left`, `sum` is the XOR of all marked words.
use mathlib.Core.Path.{◌≡◌}
use Prim.Native.Nat.{◌^◌, ◌<◌}
use lib.Bits.{bit_xor}
use lib.ListN.{length}
use Rattle.word.specs.Marked.{xor_marked}
use Rattle.word.proofs.xor_marked.Given as goal

abbrev pub invariant-loop-left : goal.invariant-loop-left
invariant-loop-left l =
    (l.left < 2 ^ 64) × (l.left < 2 ^ length l.words) × (bit_xor l.sum (xor_marked l.words l.left) ≡ xor_marked l.words l.marks)

abbrev pub decreases-loop-left : goal.decreases-loop-left
decreases-loop-left l = l.left
