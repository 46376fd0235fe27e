-- What the work on one slice of a run does.
--
--   Turned cs m k h h' r   the columns cs of a slice have been put to the words h that the run so far leaves: where at least k of them are left,
--                          these are h'; else h' are those that the columns leave of all words of width m, in a run of their own. r says how
--                          many there are, and whether the slice opened a run (1) or joined one (0)
--   SlicePut cs m k h basis dead r   .. and the basis, with these bits dead, stands beside the words that are then left
use Rattle.std.specs.Prelude.{◌≡◌, List, ℕ, ◌≤◌, ◌<◌, length}
use Rattle.combinations.specs.Step.{steps, units}
use Rattle.column_basis.specs.Basis.{Held}
use Rattle.run_words.specs.declared.Turn.{Turn}

pub data Turned (cs : List ℕ) (m k : ℕ) (h h' : List ℕ) (r : Turn) : Type 0 where
  joined : k ≤ length (steps cs h) → r.opened ≡ 0 → r.left ≡ length h' → h' ≡ steps cs h → Turned cs m k h h' r
  opened : length (steps cs h) < k → r.opened ≡ 1 → r.left ≡ length h' → h' ≡ steps cs (units m) → Turned cs m k h h' r

pub record SlicePut (cs : List ℕ) (m k : ℕ) (h basis : List ℕ) (dead : ℕ) (r : Turn) : Type 0 where
  pub words : List ℕ
  pub hold : Held words basis dead
  pub turn : Turned cs m k h words r
