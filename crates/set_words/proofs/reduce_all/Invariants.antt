-- `reduce_all` meets its contract. The loop's invariant: the words are the reduced list of the columns that are no longer left.
use mathlib.Core.Path.{◌≡◌}
use mathlib.Core.List.{List}
use Prim.Native.Nat.{ℕ, ◌+◌, ◌*◌, ◌≤◌}
use lib.ListN.{length, take}
use Rattle.rows.specs.Lists.{cells_of}
use Rattle.portions.specs.Portions.{wiring, slices_in}
use Rattle.set_words.specs.Reducing.{Reduced}
use Rattle.set_words.proofs.reduce_all.Given as goal

abbrev pub invariant-loop-at : goal.invariant-loop-at
invariant-loop-at l =
    (l.at.left ≤ length l.held)
    × (length l.held ≡ length l.initial.held)
    × (length l.working ≡ length l.initial.working)
    × (length l.words ≡ length l.initial.words)
    × ((spread : List ℕ) (m : ℕ) → Reduced (wiring l.source spread) (slices_in l.source) (cells_of l.list l.source.marks) m l.powers (slices_in l.source) (length l.initial.words) l.initial.words l.initial.held
    → Reduced (wiring l.source spread) (slices_in l.source) (cells_of l.list l.source.marks) m l.powers l.at.t l.at.chains l.words (take l.at.left l.held))

abbrev pub decreases-loop-at : goal.decreases-loop-at
decreases-loop-at l = 257 * l.at.t + l.at.chains
