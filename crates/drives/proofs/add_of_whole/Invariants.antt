-- `add_of_whole` meets its contract. The loop's invariant: the first `t` drives have their words, and nothing else has changed.
use Prim.Native.Nat.{◌+◌, ◌*◌}
use Rattle.byte_tables.specs.Table.{looked}
use Rattle.numbers.specs.Bytes.{word_at}
use Rattle.drives.specs.Drives.{Added}
use Rattle.drives.proofs.add_of_whole.Given as goal

abbrev pub invariant-loop-t : goal.invariant-loop-t
invariant-loop-t l = Added l.initial.drives l.drives l.t (λ t. looked l.table (word_at l.list (l.at + l.stride * t)) 8)
