-- The greatest number of a range at which a test holds:
--
--   greatest_of    where the test holds somewhere, what is known of it (GreatestOf)
--   greatest_at    .. so a number at which it holds, and above which it doesn't, is the greatest
--   greatest_ext   tests that agree in the range have the same
-- Assumes nothing.
use mathlib.Core.Path.{◌≡◌, refl, sym, ap, ap₂, ◌∙◌}
use mathlib.Core.Bool.{Bool, true, false, cond}
use mathlib.Core.Logic.{⊎_elim}
use Prim.Native.Nat.{ℕ, zero, suc, ◌≤◌, ◌<◌}
use native.Mathlib.Nat.{eq-or-lt_of_le, le_of_suc-le-suc}
use native.Mathlib.Omega.{arith}
use Rattle.word.proofs.BoolLaws.{true_not_false}
use Rattle.cutter.specs.Greatest.{greatest}

-- the greatest number at which a test holds that holds somewhere
pub record GreatestOf (n e : ℕ) (f : ℕ → Bool) : Type 0 where
  pub holds : f (greatest n f) ≡ true
  pub least : e ≤ greatest n f
  pub most : greatest n f ≤ n
  pub last : (i : ℕ) → greatest n f < i → i ≤ n → f i ≡ false

-- .. where it holds at the end of the range, and where it doesn't
greatest_top : (n e : ℕ) (f : ℕ → Bool) → e ≤ suc n → f (suc n) ≡ true → GreatestOf (suc n) e f
unfolding greatest
greatest_top n e f h q =
    let top : greatest (suc n) f ≡ suc n = ap (λ (b : Bool). cond b (suc n) (greatest n f)) q in
    record { holds = ap f top ∙ q; least = omega arith; most = omega arith; last = λ i a b. let no : ⊥ = omega arith in absurd no }

greatest_below : (n e : ℕ) (f : ℕ → Bool) → f (suc n) ≡ false → GreatestOf n e f → GreatestOf (suc n) e f
unfolding greatest
greatest_below n e f q rest =
    let below : greatest (suc n) f ≡ greatest n f = ap (λ (b : Bool). cond b (suc n) (greatest n f)) q in
    record {
      holds = ap f below ∙ rest.holds;
      least = omega (arith, rest.least);
      most = omega (arith, rest.most);
      last = λ i a b.
          ⊎_elim (λ (p : i ≡ suc n). ap f p ∙ q) (λ (l : i < suc n). rest.last i (omega arith) (le_of_suc-le-suc l)) (eq-or-lt_of_le b);
    }

pub greatest_of : (n e : ℕ) (f : ℕ → Bool) → e ≤ n → f e ≡ true → GreatestOf n e f
unfolding greatest
greatest_of zero e f h t =
    let z : e ≡ 0 = omega arith in
    record { holds = sym (ap f z) ∙ t; least = h; most = omega arith; last = λ i a b. let no : ⊥ = omega arith in absurd no }
greatest_of (suc n) e f h t = go (λ l. greatest_of n e f l t) (f (suc n)) refl
  where
    go : (e ≤ n → GreatestOf n e f) → (b : Bool) → f (suc n) ≡ b → GreatestOf (suc n) e f
    go rest true q = greatest_top n e f h q
    go rest false q =
        greatest_below n e f q
        (rest (⊎_elim (λ (p : e ≡ suc n). absurd (true_not_false (f e) t (ap f p ∙ q))) (λ (l : e < suc n). le_of_suc-le-suc l) (eq-or-lt_of_le h)))

-- .. it is the one number at which the test holds and above which it doesn't
pub greatest_at : (n e : ℕ) (f : ℕ → Bool) → e ≤ n → f e ≡ true → ((i : ℕ) → e < i → i ≤ n → f i ≡ false) → greatest n f ≡ e
greatest_at n e f h holds none =
    let found : GreatestOf n e f = greatest_of n e f h holds in
    ⊎_elim (λ (p : e ≡ greatest n f). sym p)
    (λ (l : e < greatest n f). absurd (true_not_false (f (greatest n f)) found.holds (none (greatest n f) l found.most)))
    (eq-or-lt_of_le found.least)

pub greatest_ext : (n : ℕ) (f h : ℕ → Bool) → ((i : ℕ) → i ≤ n → f i ≡ h i) → greatest n f ≡ greatest n h
unfolding greatest
greatest_ext zero f h e = refl
greatest_ext (suc n) f h e =
    ap₂ (λ (b : Bool) (x : ℕ). cond b (suc n) x) (e (suc n) (omega arith)) (greatest_ext n f h (λ i l. e i (omega arith)))
