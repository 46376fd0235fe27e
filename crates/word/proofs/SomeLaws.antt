-- What a test over a range or over a list says when it passes and when it fails. Assumes nothing.
use mathlib.Core.Path.{◌≡◌, refl, sym, ◌∙◌}
use mathlib.Core.Bool.{Bool, true, false, ◌||◌}
use mathlib.Core.Logic.{⊎_elim}
use mathlib.Core.List.{List, [], ◌∷◌, ◌++◌}
use Prim.Native.Nat.{ℕ, zero, suc, ◌<◌, suc-le-suc}
use native.Mathlib.Nat.{not-suc-le-zero, zero-lt-suc, lt-suc_self, le_step, eq-or-lt_of_le, le_of_suc-le-suc}
use lib.ListN.{length, get_or}
use Rattle.word.specs.Some.{any_below, any_of}
use Rattle.word.proofs.BoolLaws.{true_not_false, or_cases, or_false_left, or_false_right, or_false, or_true_left, or_true_right}

-- ---- a range

pub any_below_none : (n : ℕ) (f : ℕ → Bool) → ((k : ℕ) → k < n → f k ≡ false) → any_below n f ≡ false
unfolding any_below
any_below_none zero f h = refl
any_below_none (suc n) f h = or_false _ _ (any_below_none n f (λ k l. h k (le_step l))) (h n (lt-suc_self n))

pub any_below_false : (n : ℕ) (f : ℕ → Bool) → any_below n f ≡ false → (k : ℕ) → k < n → f k ≡ false
unfolding any_below
any_below_false zero f h k l = absurd (not-suc-le-zero l)
any_below_false (suc n) f h k l =
    ⊎_elim (λ (e : k ≡ n). rw e (or_false_right (any_below n f) (f n) h))
    (λ (m : k < n). any_below_false n f (or_false_left (any_below n f) (f n) h) k m) (eq-or-lt_of_le (le_of_suc-le-suc l))

pub any_below_true : (n : ℕ) (f : ℕ → Bool) (k : ℕ) → k < n → f k ≡ true → any_below n f ≡ true
unfolding any_below
any_below_true zero f k l h = absurd (not-suc-le-zero l)
any_below_true (suc n) f k l h =
    ⊎_elim (λ (e : k ≡ n). or_true_right (any_below n f) (f n) (rw e at h))
    (λ (m : k < n). or_true_left (any_below n f) (f n) (any_below_true n f k m h)) (eq-or-lt_of_le (le_of_suc-le-suc l))

-- .. and then some number below n does
pub any_below_some : (n : ℕ) (f : ℕ → Bool) → any_below n f ≡ true → (k : ℕ) × (k < n) × (f k ≡ true)
unfolding any_below
any_below_some zero f h = absurd (true_not_false true refl (sym h))
any_below_some (suc n) f h =
    ⊎_elim
    (λ (p : any_below n f ≡ true). let found = any_below_some n f p in (found.0, le_step found.1, found.2))
    (λ (p : f n ≡ true). (n, lt-suc_self n, p)) (or_cases (any_below n f) (f n) h)

pub any_below_ext : (n : ℕ) (f g : ℕ → Bool) → ((k : ℕ) → k < n → f k ≡ g k) → any_below n f ≡ any_below n g
unfolding any_below
any_below_ext zero f g h = refl
any_below_ext (suc n) f g h =
    let tail : any_below n f ≡ any_below n g = any_below_ext n f g (λ k l. h k (le_step l)) in
    let last : f n ≡ g n = h n (lt-suc_self n) in
    cc

-- ---- a list

pub any_of_append : {A : Type 0} (f : A → Bool) (l r : List A) → any_of f (l ++ r) ≡ (any_of f l || any_of f r)
unfolding any_of
any_of_append f [] r = refl
any_of_append f (x ∷ l) r = ap_or (f x) (any_of_append f l r) ∙ or_assoc_back (f x) (any_of f l) (any_of f r)
  where
    ap_or : (a : Bool) {b c : Bool} → b ≡ c → (a || b) ≡ (a || c)
    ap_or a e = rw e

    or_assoc_back : (a b c : Bool) → (a || (b || c)) ≡ (a || b || c)
    or_assoc_back true b c = refl
    or_assoc_back false b c = refl

pub any_of_none : {A : Type 0} (f : A → Bool) (d : A) (l : List A) → ((k : ℕ) → k < length l → f (get_or l k d) ≡ false) → any_of f l ≡ false
unfolding any_of
any_of_none f d [] h = refl
any_of_none f d (x ∷ l) h = or_false _ _ (h zero (zero-lt-suc (length l))) (any_of_none f d l (λ k m. h (suc k) (suc-le-suc m)))

pub any_of_some : {A : Type 0} (f : A → Bool) (d : A) (l : List A) (k : ℕ) → k < length l → f (get_or l k d) ≡ true → any_of f l ≡ true
unfolding any_of
any_of_some f d [] k m h = absurd (not-suc-le-zero m)
any_of_some f d (x ∷ l) zero m h = or_true_left _ _ h
any_of_some f d (x ∷ l) (suc k) m h = or_true_right (f x) _ (any_of_some f d l k (le_of_suc-le-suc m) h)

pub any_of_false : {A : Type 0} (f : A → Bool) (d : A) (l : List A) → any_of f l ≡ false → (k : ℕ) → k < length l → f (get_or l k d) ≡ false
unfolding any_of
any_of_false f d [] h k m = absurd (not-suc-le-zero m)
any_of_false f d (x ∷ l) h zero m = or_false_left (f x) (any_of f l) h
any_of_false f d (x ∷ l) h (suc k) m = any_of_false f d l (or_false_right (f x) (any_of f l) h) k (le_of_suc-le-suc m)

-- a test over a list is one over its places
pub any_of_below : {A : Type 0} (f : A → Bool) (d : A) (l : List A) → any_of f l ≡ any_below (length l) (λ k. f (get_or l k d))
any_of_below f d l = go (any_of f l) refl
  where
    go : (b : Bool) → any_of f l ≡ b → any_of f l ≡ any_below (length l) (λ k. f (get_or l k d))
    go false e = e ∙ sym (any_below_none (length l) (λ k. f (get_or l k d)) (any_of_false f d l e))
    go true e = other (any_below (length l) (λ k. f (get_or l k d))) refl
      where
        other : (b : Bool) → any_below (length l) (λ k. f (get_or l k d)) ≡ b → any_of f l ≡ any_below (length l) (λ k. f (get_or l k d))
        other true g = e ∙ sym g
        other false g = any_of_none f d l (any_below_false (length l) (λ k. f (get_or l k d)) g) ∙ sym g
