-- `ColumnBasis::slot_words` meets its contract: the words have their dead bits from bit d on.
use mathlib.Core.Path.{◌≡◌}
use mathlib.Core.List.{List}
use Prim.Native.Nat.{ℕ}
use lib.ListN.{length}
use Rattle.column_basis.specs.Basis.{Held, Settled}
use Rattle.column_basis.proofs.ColumnBasis.slot_words.Given as goal

abbrev pub invariant-loop-d : goal.invariant-loop-d
invariant-loop-d live = (length live.basis ≡ 64) × (length live.words ≡ 64) × ((l : List ℕ) → Held l live.self.words live.self.dead → Settled l live.basis live.words live.self.dead live.d)
