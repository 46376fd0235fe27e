-- One slice's columns put to the words that a run leaves: they leave enough, or the slice opens a run. Assumes nothing.
use mathlib.Core.Path.{◌≡◌, refl, ap, ◌∙◌}
use mathlib.Core.List.{List, []}
use Prim.Native.Nat.{ℕ, ◌≤◌, ◌<◌}
use native.Mathlib.Omega.{arith}
use lib.ListN.{length}
use Rattle.combinations.specs.Step.{steps, units}
use Rattle.turned_words.specs.Turned.{kept, dead_behind}
use Rattle.column_basis.specs.Basis.{Held}
use Rattle.run_words.specs.Joining.{SlicePut, joined, opened}
use Rattle.run_words.proofs.SingleLaws.{units_held}

-- the words of single bits, and the basis beside them
pub singles_held : (basis : List ℕ) (dead m : ℕ) → m ≤ 64 → basis ≡ units 64 → dead ≡ dead_behind m → Held (units m) basis dead
singles_held basis dead m lm eb ed = rw eb (rw ed (units_held m lm))

-- no run yet: every bit is dead
pub none_held : (basis : List ℕ) (dead : ℕ) → basis ≡ units 64 → dead ≡ dead_behind 0 → Held [] basis dead
unfolding units
none_held basis dead eb ed = singles_held basis dead 0 (omega arith) eb ed

-- what is held after the columns, whatever it was before
abbrev Taken : List ℕ → List ℕ → ℕ → List ℕ → ℕ → Type 0
Taken cs basis dead basis' dead' = (l : List ℕ) → Held l basis dead → Held (steps cs l) basis' dead'

-- the number of words held
abbrev Counts : ℕ → ℕ → Type 0
Counts left dead = (l : List ℕ) → length l ≡ 64 → left ≡ length (kept dead l)

count_held : (l basis : List ℕ) (dead left : ℕ) → Held l basis dead → Counts left dead → left ≡ length l
count_held l basis dead left h count = count h.slots h.hold.wide ∙ ap length h.hold.held

pub put_joined : (cs basis : List ℕ) (dead : ℕ) (basis' : List ℕ) (dead' m k left : ℕ) (h : List ℕ) → Taken cs basis dead basis' dead' → Held h basis dead
    → Counts left dead' → k ≤ left → SlicePut cs m k h basis' dead' (record { left = left; opened = 0 })
put_joined cs basis dead basis' dead' m k left h f held count enough =
    let after : Held (steps cs h) basis' dead' = f h held in
    let many : left ≡ length (steps cs h) = count_held (steps cs h) basis' dead' left after count in
    record { words = steps cs h; hold = after; turn = joined (omega (arith, many)) refl many refl }

-- where the columns brought the basis to basisᵗ first
pub put_opened : (cs basis : List ℕ) (dead : ℕ) (basisᵗ : List ℕ) (deadᵗ : ℕ) (basis' : List ℕ) (dead' m k tried left : ℕ) (h : List ℕ)
    → Taken cs basis dead basisᵗ deadᵗ → Held h basis dead → Counts tried deadᵗ → tried < k
    → Held (steps cs (units m)) basis' dead' → Counts left dead' → SlicePut cs m k h basis' dead' (record { left = left; opened = 1 })
put_opened cs basis dead basisᵗ deadᵗ basis' dead' m k tried left h f held countᵗ fewer after count =
    let less : tried ≡ length (steps cs h) = count_held (steps cs h) basisᵗ deadᵗ tried (f h held) countᵗ in
    record {
      words = steps cs (units m);
      hold = after;
      turn = opened (omega (arith, less)) refl (count_held (steps cs (units m)) basis' dead' left after count) refl;
    }
