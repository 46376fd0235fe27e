-- `fill_byte` meets its contract. The loop's invariant: the first 2 to the `t` entries are made.
use mathlib.Core.List.{List}
use Prim.Native.Nat.{ℕ, ◌^◌}
use Rattle.byte_tables.specs.Table.{Filled}
use Rattle.byte_tables.proofs.fill_byte.Given as goal

abbrev pub invariant-loop-t : goal.invariant-loop-t
invariant-loop-t live =
    (l : List ℕ) → Filled live.words l live.initial.table live.e live.i (2 ^ 0) → Filled live.words l live.table live.e live.i (2 ^ live.t)
