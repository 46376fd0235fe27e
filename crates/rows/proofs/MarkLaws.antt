-- Sums, and lists of what is marked. Assumes nothing.
use mathlib.Core.Path.{◌≡◌, refl, sym, ap, ap₂, ◌∙◌}
use mathlib.Core.Bool.{false}
use mathlib.Core.Logic.{dite, ⊎_elim}
use mathlib.Core.List.{List}
use Prim.Native.Nat.{ℕ, zero, suc, ◌+◌, ◌-◌, ◌*◌, ◌≤◌, ◌<◌}
use native.Mathlib.Nat.{add-zero, add-suc, add_assoc, suc-mul}
use native.Mathlib.Decide.{dec_lt}
use native.Mathlib.Omega.{arith}
use borrow.Author.Tests.{eqb-false}
use lib.Dec.{eqb}
use lib.ListN.{length}
use Rattle.word.proofs.Laws.{bit_cases}
use Rattle.word.proofs.SomeLaws.{any_below_false}
use Rattle.rows.specs.Row.{row_bytes, cell, spare_set}
use Rattle.rows.specs.Marks.{total, listed}
use Rattle.rows.proofs.CellLaws.{cell_lt, cell_past}

-- ---- sums

pub total_none : (f : ℕ → ℕ) → total 0 f ≡ 0
unfolding total
total_none f = refl

pub total_suc : (n : ℕ) (f : ℕ → ℕ) → total (suc n) f ≡ total n f + f n
unfolding total
total_suc n f = refl

pub total_ext : (n : ℕ) (f g : ℕ → ℕ) → ((c : ℕ) → c < n → f c ≡ g c) → total n f ≡ total n g
unfolding total
total_ext zero f g h = refl
total_ext (suc n) f g h = ap₂ ◌+◌ (total_ext n f g (λ c l. h c (omega arith))) (h n (omega arith))

pub total_le : (n b : ℕ) (f : ℕ → ℕ) → ((c : ℕ) → f c ≤ b) → total n f ≤ n * b
unfolding total
total_le zero b f h = omega arith
total_le (suc n) b f h = omega (arith, total_le n b f h, h n, suc-mul n b)

pub total_add : (a j : ℕ) (f : ℕ → ℕ) → total (a + j) f ≡ total a f + total j (λ i. f (a + i))
unfolding total
total_add a zero f = ap (λ (k : ℕ). total k f) (add-zero a) ∙ sym (add-zero (total a f))
total_add a (suc j) f =
    ap (λ (k : ℕ). total k f) (add-suc a j) ∙ ap (λ (x : ℕ). x + f (a + j)) (total_add a j f) ∙ add_assoc (total a f) (total j (λ i. f (a + i))) (f (a + j))

pub total_front : (n : ℕ) (f : ℕ → ℕ) → total (suc n) f ≡ f 0 + total n (λ i. f (suc i))
unfolding total
total_front zero f = omega arith
total_front (suc n) f = ap (λ (x : ℕ). x + f (suc n)) (total_front n f) ∙ add_assoc (f 0) (total n (λ i. f (suc i))) (f (suc n))

-- a sum grows no more once its terms are 0
pub total_stops : (a j : ℕ) (f : ℕ → ℕ) → ((c : ℕ) → a ≤ c → f c ≡ 0) → total (a + j) f ≡ total a f
unfolding total
total_stops a zero f h = ap (λ (k : ℕ). total k f) (add-zero a)
total_stops a (suc j) f h =
    ap (λ (k : ℕ). total k f) (add-suc a j) ∙ omega (arith, total_stops a j f h, h (a + j) (omega arith))

-- ---- lists

pub length_listed : (d w : ℕ) → d < 2 → length (listed d w) ≡ d
length_listed zero w h = refl
length_listed (suc zero) w h = refl
length_listed (suc (suc d)) w h = let z : ⊥ = omega arith in absurd z

-- ---- a row without spare bits

module _ (n : ℕ) (row : List ℕ) (long : length row ≡ row_bytes n) (clean : spare_set n row ≡ false) where
  -- it has no cell from n on
  cell_spare : (c : ℕ) → n ≤ c → cell row c ≡ 0
  unfolding spare_set
  cell_spare c h =
      dite (dec_lt c (8 * row_bytes n))
      (λ (l : c < 8 * row_bytes n).
      let same : n + (c - n) ≡ c = omega arith in
      let off : eqb (cell row (n + (c - n))) 1 ≡ false =
      any_below_false (8 * row_bytes n - n) (λ k. eqb (cell row (n + k)) 1) clean (c - n) (omega arith) in
      ⊎_elim (λ (z : cell row c ≡ 0). z)
      (λ (o : cell row c ≡ 1). absurd (eqb-false (cell row (n + (c - n))) 1 off (ap (cell row) same ∙ o))) (bit_cases (cell row c) (cell_lt row c)))
      (λ (l : c < 8 * row_bytes n → ⊥). cell_past row c (omega arith))

  pub row_total : n ≤ 256 → total 256 (cell row) ≡ total n (cell row)
  row_total h =
      let whole : n + (256 - n) ≡ 256 = omega arith in
      ap (λ (k : ℕ). total k (cell row)) (sym whole) ∙ total_stops n (256 - n) (cell row) cell_spare
