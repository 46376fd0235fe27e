-- What the work on portions knows.
--
--   Reduced ..   the words h are the reduced list of those columns that are no longer left, and the chains' words ws are ready for the others
--   Done ..      the first r places of the list l hold the reduced list of all columns
use Rattle.std.specs.Prelude.{◌≡◌, List, ◌++◌, ℕ, ◌≤◌, length, take}
use Rattle.combinations.specs.Reduced.{reduced_list}
use Rattle.register.specs.Circuit.{Circuit, chains}
use Rattle.signatures.specs.Signature.{Response}
use Rattle.signatures.specs.Columns.{columns_below}
use Rattle.portions.specs.Portions.{columns_left, Ready}

-- for a circuit k and the cells that u marks in s slices, a width m and powers ps: the columns of t slices are left, of the last the chains
-- below c
pub record Reduced (k : Circuit) (s : ℕ) (u : Response) (m : ℕ) (ps : List ℕ) (t c : ℕ) (ws h : List ℕ) : Type 0 where
  pub ready : Ready k s t ps ws
  pub few : c ≤ chains k
  pub columns : List ℕ
  pub split : columns_below k s u s ≡ columns_left k s u t c ++ columns
  pub words : h ≡ reduced_list m columns

abbrev pub Done : Circuit → ℕ → Response → ℕ → ℕ → List ℕ → Type 0
Done k s u m r l = (r ≡ length (reduced_list m (columns_below k s u s))) × (take r l ≡ reduced_list m (columns_below k s u s))
