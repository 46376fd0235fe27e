-- `add_by_table` meets its contract. The loop's invariant: the words are as they were, and are the reduced list of the columns that are no
-- longer left.
use mathlib.Core.Path.{◌≡◌}
use mathlib.Core.Logic.{◌⊎◌}
use mathlib.Core.List.{List}
use Prim.Native.Nat.{ℕ, ◌+◌, ◌*◌, ◌<◌}
use lib.ListN.{length}
use Rattle.rows.specs.Lists.{cells_of}
use Rattle.portions.specs.Portions.{wiring, slices_in}
use Rattle.set_words.specs.Reducing.{Reduced}
use Rattle.set_words.proofs.add_by_table.Given as goal

abbrev pub invariant-loop-portion : goal.invariant-loop-portion
invariant-loop-portion l =
    (length l.working ≡ length l.initial.working)
    × (length l.words ≡ length l.initial.words)
    × (l.held ≡ l.initial.held)
    × (((l.portion.t ≡ l.initial.portion.t) × (l.portion.chains ≡ l.initial.portion.chains)) ⊎ (257 * l.portion.t + l.portion.chains < 257 * l.initial.portion.t + l.initial.portion.chains))
    × ((spread : List ℕ) (m : ℕ) → Reduced (wiring l.source spread) (slices_in l.source) (cells_of l.list l.source.marks) m l.powers l.initial.portion.t l.initial.portion.chains l.initial.words l.initial.held
    → Reduced (wiring l.source spread) (slices_in l.source) (cells_of l.list l.source.marks) m l.powers l.portion.t l.portion.chains l.words l.initial.held)

abbrev pub decreases-loop-portion : goal.decreases-loop-portion
decreases-loop-portion l = 257 * l.portion.t + l.portion.chains
