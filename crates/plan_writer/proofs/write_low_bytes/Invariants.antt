-- `write_low_bytes` meets its contract: the bytes still to be written stand in what is left of the word.
use mathlib.Core.Path.{◌≡◌}
use Prim.Native.Nat.{◌-◌}
use lib.Seq.{sets}
use Rattle.numbers.specs.Bytes.{bytes_of}
use Rattle.plan_writer.proofs.write_low_bytes.Given as goal

abbrev pub invariant-loop-byte : goal.invariant-loop-byte
invariant-loop-byte l = sets l.byte-items l.byte-index (bytes_of (l.n - l.byte-index) l.rest) ≡ sets l.initial.byte-items 0 (bytes_of l.n l.x)
