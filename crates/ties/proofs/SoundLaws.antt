-- What 29 to 31 leave of the ties.
--
--   sound_ties     ties that none of the three refuses are sound
--   sound_within   sound ties of at most 256 entries lie within their slices and chains
-- Assumes nothing.
use mathlib.Core.Path.{◌≡◌, refl, sym, ◌∙◌}
use mathlib.Core.Bool.{Bool, true, false, not, ◌&&◌}
use mathlib.Core.Logic.{◌⊎◌, inl, inr, ⊎_elim}
use Prim.Native.Nat.{ℕ, zero, suc, ◌-◌, ◌≤◌, ◌<◌}
use native.Mathlib.Nat.{not-suc-le-zero, eq-or-lt_of_le, le_of_suc-le-suc}
use native.Mathlib.Omega.{arith}
use borrow.Author.Tests.{eqb-true, ltb-true, ltb-false}
use lib.Dec.{eqb, ltb}
use Rattle.word.proofs.BoolLaws.{and_both, or_cases, not_true}
use Rattle.word.proofs.SomeLaws.{any_below_false}
use Rattle.rows.specs.Row.{Cells}
use Rattle.ties.specs.Ties.{Ties, wrong_cell, wrong_cells, precedes, wrong_order, wrong_sides}
use Rattle.ties.specs.Symbols.{names, Within, SoundTies}
use Rattle.ties.proofs.SymbolLaws.{names_cell}

not_false : (b : Bool) → not b ≡ false → b ≡ true
not_false true h = refl
not_false false h = sym h

-- entry a's cell comes before entry b's
abbrev Before : Ties → ℕ → ℕ → Type 0
Before e a b = (e.slice a < e.slice b) ⊎ ((e.slice a ≡ e.slice b) × (e.chain a < e.chain b))

before_trans : (e : Ties) (a b d : ℕ) → Before e a b → Before e b d → Before e a d
before_trans e a b d (inl x) (inl y) = inl (omega arith)
before_trans e a b d (inl x) (inr y) = inl (omega (arith, y.0))
before_trans e a b d (inr x) (inl y) = inl (omega (arith, x.0))
before_trans e a b d (inr x) (inr y) = inr (x.0 ∙ y.0, omega (arith, x.1, y.1))

module _ (s n : ℕ) (u : ℕ → Cells) (e : Ties) (cells : wrong_cells s n u e ≡ false) (order : wrong_order e ≡ false) (sides : wrong_sides e ≡ false) where
  right_cell : (i : ℕ) → i < e.count → (e.slice i < s) × (e.chain i < n) × (u (e.slice i) (e.chain i) ≡ 1)
  unfolding wrong_cells wrong_cell
  right_cell i l =
      let inside = not_false _ (any_below_false e.count (wrong_cell s n u e) cells i l) in
      let parts = and_both (ltb (e.slice i) s) (ltb (e.chain i) n && eqb (u (e.slice i) (e.chain i)) 1) inside in
      let rest = and_both (ltb (e.chain i) n) (eqb (u (e.slice i) (e.chain i)) 1) parts.1 in
      (ltb-true (e.slice i) s parts.0, ltb-true (e.chain i) n rest.0, eqb-true (u (e.slice i) (e.chain i)) 1 rest.1)

  next_before : (i : ℕ) → suc i < e.count → Before e i (suc i)
  unfolding wrong_order precedes
  next_before i l =
      ⊎_elim (λ (p : ltb (e.slice i) (e.slice (suc i)) ≡ true). inl (ltb-true (e.slice i) (e.slice (suc i)) p))
      (λ (p : (eqb (e.slice i) (e.slice (suc i)) && ltb (e.chain i) (e.chain (suc i))) ≡ true).
      let both = and_both (eqb (e.slice i) (e.slice (suc i))) (ltb (e.chain i) (e.chain (suc i))) p in
      inr (eqb-true (e.slice i) (e.slice (suc i)) both.0, ltb-true (e.chain i) (e.chain (suc i)) both.1))
      (or_cases (ltb (e.slice i) (e.slice (suc i))) (eqb (e.slice i) (e.slice (suc i)) && ltb (e.chain i) (e.chain (suc i)))
      (not_false _ (any_below_false (e.count - 1) (λ j. not (precedes e j)) order i (omega arith))))

  all_before : (h i : ℕ) → h < i → i < e.count → Before e h i
  all_before h zero l m = absurd (not-suc-le-zero l)
  all_before h (suc i) l m =
      ⊎_elim (λ (p : h ≡ i). rw p (next_before i m))
      (λ (p : h < i). before_trans e h i (suc i) (all_before h i p (omega arith)) (next_before i m)) (eq-or-lt_of_le (le_of_suc-le-suc l))

  apart_cells : (h i : ℕ) → h < i → i < e.count → names e h (e.slice i) (e.chain i) ≡ false
  apart_cells h i l m =
      not_true (names e h (e.slice i) (e.chain i))
      (λ (p : names e h (e.slice i) (e.chain i) ≡ true).
      let same = names_cell e h (e.slice i) (e.chain i) p in
      ⊎_elim (λ (b : e.slice h < e.slice i). let z : ⊥ = omega (arith, same.0) in z)
      (λ (b : (e.slice h ≡ e.slice i) × (e.chain h < e.chain i)). let z : ⊥ = omega (arith, same.1, b.1) in z) (all_before h i l m))

  pub sound_ties : SoundTies s n u e
  unfolding wrong_sides
  sound_ties = record {
    slices = λ i l. (right_cell i l).0;
    chains = λ i l. (right_cell i l).1;
    unknown = λ i l. (right_cell i l).2;
    apart = apart_cells;
    sides = right_side;
  }
    where
      right_side : (i : ℕ) → i < e.count → e.side i < 2
      right_side i l = omega (arith, ltb-false 1 (e.side i) (any_below_false e.count (λ j. ltb 1 (e.side j)) sides i l))

pub sound_within : (s n : ℕ) (u : ℕ → Cells) (e : Ties) → SoundTies s n u e → e.count ≤ 256 → Within s n e
sound_within s n u e sound few = record { few = few; slices = sound.slices; chains = sound.chains }
