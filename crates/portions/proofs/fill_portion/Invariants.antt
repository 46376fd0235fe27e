-- `fill_portion` meets its contract. The loop's invariant: the columns from those that are left on stand at the list's end, for all spread
-- words that the words are ready for; a row was just listed.
use mathlib.Core.Path.{◌≡◌}
use mathlib.Core.List.{List}
use Prim.Native.Nat.{ℕ, ◌≤◌, ◌<◌}
use lib.ListN.{length}
use Rattle.rows.specs.Lists.{cells_of}
use Rattle.portions.specs.Portions.{wiring, slices_in}
use Rattle.portions.proofs.PortionLaws.{Filling, Moved}
use Rattle.portions.proofs.fill_portion.Given as goal

abbrev pub invariant-loop-chains : goal.invariant-loop-chains
invariant-loop-chains l =
    (0 < l.t)
    × (l.chains ≤ length l.words)
    × (l.place ≤ length l.columns)
    × (length l.columns ≡ length l.initial.columns)
    × (length l.words ≡ length l.initial.words)
    × Moved (length l.initial.words) (length l.initial.columns) l.initial.t l.limit l.t l.chains
    × ((spread l₀ : List ℕ) → Filling (wiring l.source spread) (slices_in l.source) (cells_of l.list l.source.marks) l.powers l₀ l.initial.t l.limit l.initial.words l.initial.columns l.initial.place l.initial.t l.initial.chains
    → Filling (wiring l.source spread) (slices_in l.source) (cells_of l.list l.source.marks) l.powers l₀ l.initial.t l.limit l.words l.columns l.place l.t l.chains)

abbrev pub decreases-loop-chains : goal.decreases-loop-chains
decreases-loop-chains l = l.t
