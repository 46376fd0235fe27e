-- What is given with the same register, chains, number of slices and marks is cut alike, whatever the values:
--
--   same_left      the words that a run leaves
--   same_starts    the first slices of the runs
--   same_short     whether a slice alone leaves fewer than k words
--
-- And the register and chains of a set that meets none of its numbers are sound (sound_set). Assumes nothing.
use mathlib.Core.Path.{◌≡◌, refl, ap, ap₂, ◌∙◌}
use mathlib.Core.Bool.{cond}
use mathlib.Core.List.{List, [], ◌∷◌}
use Prim.Native.Nat.{ℕ, zero, suc, ◌+◌, ◌-◌, ◌≤◌}
use native.Mathlib.Omega.{arith}
use lib.Dec.{leb, ltb}
use Rattle.word.specs.Some.{any_below}
use Rattle.word.proofs.SomeLaws.{any_below_ext}
use Rattle.combinations.specs.Combination.{rank}
use Rattle.register.specs.Circuit.{Circuit}
use Rattle.register.proofs.Laws.{good_taps}
use Rattle.chains.proofs.Laws.{good_spread}
use Rattle.set_layout.specs.Layout.{width_of, taps_of, spread_of, circuit_of}
use Rattle.set_file.proofs.Laws.{Accepted, accepted_width}
use Rattle.signatures.specs.Columns.{columns_below}
use Rattle.signatures.specs.Given.{Given, SameMarks}
use Rattle.signatures.proofs.ColumnLaws.{columns_ext}
use Rattle.cutter.specs.Greatest.{greatest}
use Rattle.cutter.specs.Cutting.{words_left, leaves, longest_end, starts_from, starts_for, short_slice}
use Rattle.cutter.specs.Turns.{Sound}
use Rattle.cutter.proofs.GreatestLaws.{greatest_ext}

module _ (g h : Given) (r : SameMarks g h) where
  pub same_left : (a b : ℕ) → b ≤ g.slices → words_left g a b ≡ words_left h a b
  unfolding words_left
  same_left a b l =
      ap (λ (x : List ℕ). g.wiring.width - rank x)
      (columns_ext g.wiring (b - a) (λ t. g.marks (a + t)) (λ t. h.marks (a + t)) (b - a) (λ t c i d. r.marks (a + t) c (omega arith) d))
      ∙ ap (λ (k : Circuit). k.width - rank (columns_below k (b - a) (λ t. h.marks (a + t)) (b - a))) r.wiring

  module _ (k : ℕ) where
    same_longest : (a : ℕ) → longest_end g k a ≡ longest_end h k a
    unfolding longest_end leaves
    same_longest a =
        greatest_ext g.slices (λ b. leb k (words_left g a b)) (λ b. leb k (words_left h a b)) (λ b l. ap (leb k) (same_left a b l))
        ∙ ap (λ (n : ℕ). greatest n (λ b. leb k (words_left h a b))) r.slices

    same_from : (j a : ℕ) → starts_from g k j a ≡ starts_from h k j a
    unfolding starts_from
    same_from zero a = refl
    same_from (suc j) a =
        ap₂ (λ (n : ℕ) (l : List ℕ). cond (ltb a n) (a ∷ l) []) r.slices (same_from j (longest_end g k a) ∙ ap (starts_from h k j) (same_longest a))

    pub same_starts : starts_for g k ≡ starts_for h k
    unfolding starts_for
    same_starts = same_from g.slices 0 ∙ ap (λ (n : ℕ). starts_from h k n 0) r.slices

    pub same_short : short_slice g k ≡ short_slice h k
    unfolding short_slice
    same_short =
        any_below_ext g.slices (λ t. ltb (words_left g t (suc t)) k) (λ t. ltb (words_left h t (suc t)) k)
        (λ t l. ap (λ (x : ℕ). ltb x k) (same_left t (suc t) l))
        ∙ ap (λ (n : ℕ). any_below n (λ t. ltb (words_left h t (suc t)) k)) r.slices

pub sound_set : (set : List ℕ) → Accepted set → Sound (circuit_of set)
sound_set set a =
    let taps = good_taps (width_of set) (taps_of set) a.taps in
    record { some = (accepted_width set a).0; odd = taps.0; taps = taps.1; spread = good_spread (width_of set) (spread_of set) a.spread }
