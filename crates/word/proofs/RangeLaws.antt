-- Tests over a range: how a loop that looks for the first number stands, and how ranges are put together. Assumes nothing.
use mathlib.Core.Path.{◌≡◌, refl, sym, ap, ap₂, ◌∙◌}
use mathlib.Core.Bool.{Bool, true, false, ◌||◌}
use Prim.Native.Nat.{ℕ, zero, suc, ◌+◌, ◌*◌, ◌<◌}
use native.Mathlib.Nat.{add-zero, add-suc, mul-suc, mul-zero}
use native.Mathlib.Numerals.{add-one}
use native.Mathlib.Omega.{arith}
use Rattle.word.specs.Some.{any_below}
use Rattle.word.proofs.SomeLaws.{any_below_true}
use Rattle.word.proofs.BoolLaws.{or_false, or_none}

-- two tests are the same where each fails if the other does
pub same_failures : (a b : Bool) → (a ≡ false → b ≡ false) → (b ≡ false → a ≡ false) → a ≡ b
same_failures true true f g = refl
same_failures true false f g = g refl
same_failures false b f g = sym (f refl)

-- ---- a loop that looks for the first number at which f holds

pub none_passed : (f : ℕ → Bool) → any_below 0 f ≡ false
unfolding any_below
none_passed f = refl

pub one_passed : (f : ℕ → Bool) (t : ℕ) → any_below t f ≡ false → f t ≡ false → any_below (t + 1) f ≡ false
unfolding any_below
one_passed f t h e = ap (λ (k : ℕ). any_below k f) (add-one t) ∙ or_false (any_below t f) (f t) h e

pub one_found : (f : ℕ → Bool) (n t : ℕ) → t < n → f t ≡ true → true ≡ any_below n f
one_found f n t l h = sym (any_below_true n f t l h)

pub all_passed : (f : ℕ → Bool) (n t : ℕ) → any_below t f ≡ false → t ≡ n → false ≡ any_below n f
all_passed f n t h e = sym (ap (λ (k : ℕ). any_below k f) (sym e) ∙ h)

-- ---- ranges put together

or_assoc : (a b c : Bool) → (a || b || c) ≡ (a || (b || c))
or_assoc true b c = refl
or_assoc false b c = refl

or_crosswise : (a b c d : Bool) → (a || b || (c || d)) ≡ (a || c || (b || d))
or_crosswise true b c d = refl
or_crosswise false true true d = refl
or_crosswise false true false d = refl
or_crosswise false false c d = refl

pub any_below_or : (n : ℕ) (f g : ℕ → Bool) → any_below n (λ k. f k || g k) ≡ (any_below n f || any_below n g)
unfolding any_below
any_below_or zero f g = refl
any_below_or (suc n) f g =
    ap (λ (b : Bool). b || (f n || g n)) (any_below_or n f g) ∙ or_crosswise (any_below n f) (any_below n g) (f n) (g n)

-- a range of pairs
pub any_below_pairs : (n : ℕ) (f : ℕ → Bool) → any_below (2 * n) f ≡ any_below n (λ k. f (2 * k) || f (2 * k + 1))
unfolding any_below
any_below_pairs zero f = refl
any_below_pairs (suc n) f =
    let twice : 2 * suc n ≡ suc (suc (2 * n)) = omega arith in
    ap (λ (k : ℕ). any_below k f) twice
    ∙ or_assoc (any_below (2 * n) f) (f (2 * n)) (f (suc (2 * n)))
    ∙ ap₂ (λ (b : Bool) (k : ℕ). b || (f (2 * n) || f k)) (any_below_pairs n f) (sym (add-one (2 * n)))

pub any_below_add : (m n : ℕ) (f : ℕ → Bool) → any_below (m + n) f ≡ (any_below m f || any_below n (λ k. f (m + k)))
unfolding any_below
any_below_add m zero f = ap (λ (k : ℕ). any_below k f) (add-zero m) ∙ sym (or_none (any_below m f))
any_below_add m (suc n) f =
    ap (λ (k : ℕ). any_below k f) (add-suc m n)
    ∙ ap (λ (b : Bool). b || f (m + n)) (any_below_add m n f)
    ∙ or_assoc (any_below m f) (any_below n (λ k. f (m + k))) (f (m + n))

-- a range of n blocks of b numbers each
pub any_below_blocks : (b n : ℕ) (f : ℕ → Bool) → any_below (b * n) f ≡ any_below n (λ t. any_below b (λ j. f (b * t + j)))
unfolding any_below
any_below_blocks b zero f = ap (λ (k : ℕ). any_below k f) (mul-zero b)
any_below_blocks b (suc n) f =
    ap (λ (k : ℕ). any_below k f) (mul-suc b n)
    ∙ any_below_add (b * n) b f
    ∙ ap (λ (x : Bool). x || any_below b (λ j. f (b * n + j))) (any_below_blocks b n f)
