-- `ColumnBasis::take_columns` meets its contract: the list held, after the columns that are left, is the list after all of them.
use mathlib.Core.List.{List}
use Prim.Native.Nat.{ℕ}
use Rattle.column_basis.specs.Basis.{Held}
use Rattle.column_basis.proofs.LoopLaws.{Taking}
use Rattle.column_basis.proofs.ColumnBasis.take_columns.Given as goal

abbrev pub invariant-loop-column : goal.invariant-loop-column
invariant-loop-column live = (l : List ℕ) → Held l live.initial.self.words live.initial.self.dead → Taking live.columns l live.self.words live.self.dead live.column-index
