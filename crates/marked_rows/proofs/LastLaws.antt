-- The last marked row, and the marks of all rows by going from one marked row to the one before it. Assumes nothing.
use mathlib.Core.Path.{◌≡◌, refl, sym, ap, ◌∙◌}
use mathlib.Core.Bool.{Bool, true, false, cond}
use mathlib.Core.Logic.{dite}
use mathlib.Core.List.{List, map}
use Prim.Native.Nat.{ℕ, zero, suc, ◌+◌, ◌-◌, ◌*◌, ◌≤◌, ◌<◌}
use native.Mathlib.Numerals.{add-one}
use native.Mathlib.Decide.{ℕ_discrete}
use native.Mathlib.Omega.{arith}
use borrow.Author.Tests.{eq-eqb, eqb-true, eqb-false, ne_eqb}
use lib.Dec.{eqb}
use Rattle.rows.specs.Lists.{row_of, cells_of}
use Rattle.rows.specs.Marks.{total}
use Rattle.rows.specs.declared.Rows.{Rows}
use Rattle.std.specs.List.{range_with_len, sum}
use Rattle.std.proofs.lemmas.List.FromFn.{sum_by-map-range_with_len_more}
use Rattle.rows.proofs.MarkLaws.{total_none, total_suc, total_le}
use Rattle.marked_rows.specs.Last.{last_marked, last_count}
use Rattle.marked_rows.proofs.CountLaws.{row_total_le}

module _ (l : List ℕ) (r : Rows) where
  abbrev marks_in : ℕ → ℕ
  marks_in t = total 256 (cells_of l r t)

  -- ---- one row more

  last_none : last_marked l r 0 ≡ 0
  unfolding last_marked
  last_none = refl

  count_none : last_count l r 0 ≡ 0
  unfolding last_count
  count_none = refl

  last_blank : (t : ℕ) → marks_in t ≡ 0 → last_marked l r (suc t) ≡ last_marked l r t
  unfolding last_marked
  last_blank t e = ap (λ (b : Bool). cond {A = ℕ} b (last_marked l r t) (suc t)) (eq-eqb (marks_in t) 0 e)

  count_blank : (t : ℕ) → marks_in t ≡ 0 → last_count l r (suc t) ≡ last_count l r t
  unfolding last_count
  count_blank t e = ap (λ (b : Bool). cond {A = ℕ} b (last_count l r t) (marks_in t)) (eq-eqb (marks_in t) 0 e)

  last_here : (t : ℕ) → (marks_in t ≡ 0 → ⊥) → last_marked l r (suc t) ≡ suc t
  unfolding last_marked
  last_here t e = ap (λ (b : Bool). cond {A = ℕ} b (last_marked l r t) (suc t)) (ne_eqb (marks_in t) 0 e)

  count_here : (t : ℕ) → (marks_in t ≡ 0 → ⊥) → last_count l r (suc t) ≡ marks_in t
  unfolding last_count
  count_here t e = ap (λ (b : Bool). cond {A = ℕ} b (last_count l r t) (marks_in t)) (ne_eqb (marks_in t) 0 e)

  -- ---- the search, from row t on: what is sought is found among the rows that are left

  pub record Seeking (t left : ℕ) : Type 0 where
    pub place : last_marked l r t ≡ last_marked l r left
    pub count : last_count l r t ≡ last_count l r left

  pub seeking_start : (t : ℕ) → Seeking t t
  seeking_start t = record { place = refl; count = refl }

  pub seeking_turn : (t left n : ℕ) → Seeking t left → 0 < left → n ≡ marks_in (left - 1) → n ≡ 0 → Seeking t (left - 1)
  seeking_turn t left n k some ec z =
      let one : left ≡ suc (left - 1) = omega arith in
      let blank : marks_in (left - 1) ≡ 0 = sym ec ∙ z in
      record {
        place = k.place ∙ ap (last_marked l r) one ∙ last_blank (left - 1) blank;
        count = k.count ∙ ap (last_count l r) one ∙ count_blank (left - 1) blank;
      }

  pub seeking_found : (t left n : ℕ) → Seeking t left → 0 < left → n ≡ marks_in (left - 1) → (n ≡ 0 → ⊥)
      → (left - 1 + 1 ≡ last_marked l r t) × (n ≡ last_count l r t)
  seeking_found t left n k some ec z =
      let one : left ≡ suc (left - 1) = omega arith in
      let marked : marks_in (left - 1) ≡ 0 → ⊥ = λ e. z (ec ∙ e) in (
        add-one (left - 1) ∙ sym (last_here (left - 1) marked) ∙ ap (last_marked l r) (sym one) ∙ sym k.place,
        ec ∙ sym (count_here (left - 1) marked) ∙ ap (last_count l r) (sym one) ∙ sym k.count,
      )

  pub seeking_none : (t left : ℕ) → Seeking t left → left ≡ 0 → (0 ≡ last_marked l r t) × (0 ≡ last_count l r t)
  seeking_none t left k z =
      (sym (k.place ∙ ap (last_marked l r) z ∙ last_none), sym (k.count ∙ ap (last_count l r) z ∙ count_none))

  -- ---- what is known of it, by one row more

  -- a fact of 0 rows, which a blank row keeps and a marked one has, holds of all
  by_last : (P : ℕ → Type 0) → P 0 → ((t : ℕ) → marks_in t ≡ 0 → P t → P (suc t)) → ((t : ℕ) → (marks_in t ≡ 0 → ⊥) → P (suc t)) → (t : ℕ) → P t
  by_last P none blank here zero = none
  by_last P none blank here (suc t) = go (by_last P none blank here t) (eqb (marks_in t) 0) refl
    where
      go : P t → (b : Bool) → eqb (marks_in t) 0 ≡ b → P (suc t)
      go p true e = blank t (eqb-true (marks_in t) 0 e) p
      go p false e = here t (eqb-false (marks_in t) 0 e)

  pub last_le : (t : ℕ) → last_marked l r t ≤ t
  last_le =
      by_last (λ t. last_marked l r t ≤ t) (omega (arith, last_none)) (λ t e p. omega (arith, last_blank t e)) (λ t e. omega (arith, last_here t e))

  -- the rows behind it mark nothing
  pub blank_after : (t v : ℕ) → last_marked l r t ≤ v → v < t → marks_in v ≡ 0
  blank_after =
      by_last (λ t. (v : ℕ) → last_marked l r t ≤ v → v < t → marks_in v ≡ 0) (λ v h k. let z : ⊥ = omega arith in absurd z)
      (λ t e p v h k. dite (ℕ_discrete v t) (λ (z : v ≡ t). ap marks_in z ∙ e) (λ (z : v ≡ t → ⊥). p v (omega (arith, last_blank t e)) (omega arith)))
      (λ t e v h k. let z : ⊥ = omega (arith, last_here t e) in absurd z)

  total_zero : (n : ℕ) (f : ℕ → ℕ) → total n f ≡ 0 → (c : ℕ) → c < n → f c ≡ 0
  total_zero zero f e c h = let z : ⊥ = omega arith in absurd z
  total_zero (suc n) f e c h =
      dite (ℕ_discrete c n) (λ (z : c ≡ n). ap f z ∙ omega (arith, total_suc n f)) (λ (z : c ≡ n → ⊥). total_zero n f (omega (arith, total_suc n f)) c (omega arith))

  -- .. in no cell
  pub blank_cells : (t v c : ℕ) → last_marked l r t ≤ v → v < t → c < 256 → cells_of l r v c ≡ 0
  blank_cells t v c h k few = total_zero 256 (cells_of l r v) (blank_after t v h k) c few

-- ---- the marks of all rows

module _ (l : List ℕ) (r : Rows) where
  pub marks_le : (t : ℕ) → total t (marks_in l r) ≤ t * 256
  marks_le t = total_le t 256 (marks_in l r) (λ v. row_total_le (marks_in l r v) (row_of l r v) refl)

-- the same as the sum of a list
pub total_sum : (f : ℕ → ℕ) (n : ℕ) → sum (map f (range_with_len 0 n)) ≡ total n f
total_sum f zero = sym (total_none f)
total_sum f (suc n) =
    ap (λ (k : ℕ). sum (map f (range_with_len 0 k))) (sym (add-one n))
    ∙ sum_by-map-range_with_len_more (λ (x : ℕ). x) f 0 n n (omega arith)
    ∙ ap (λ (x : ℕ). x + f n) (total_sum f n)
    ∙ sym (total_suc n f)
