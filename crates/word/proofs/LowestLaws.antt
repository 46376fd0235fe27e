-- The digits of a number by parts: of its remainder, past its end, and of what is left without its lowest bit. Assumes nothing.
use mathlib.Core.Path.{◌≡◌, refl, sym, ap, ap₂, subst, ◌∙◌}
use Prim.Native.Nat.{ℕ, zero, suc, ◌+◌, ◌-◌, ◌*◌, ◌/◌, ◌%◌, ◌^◌, ◌≤◌, ◌<◌}
use native.Mathlib.Nat.{div-eq_of_lt, lt_of_lt_of_le, pow-suc, one-mul, add-zero, mod-one, div-one}
use native.Mathlib.Numerals.{add-one, one-add}
use native.Mathlib.Omega.{arith}
use lib.Bits.{bit_and, and_block, and_self, and_mask}
use lib.Count.{count_trailing_zeros, under}
use lib.Pow.{pow_pos, pow_mono, pow-lt, shr-shr, shl-shr, split, low, field, mod-pow-add, mod-mod-pow}
use Rattle.word.specs.Word.{digit}

-- ---- a number's digits

pub digit_mod : (k n d : ℕ) → d < k → digit d (n % 2 ^ k) ≡ digit d n
digit_mod k n d h =
    let low : k ≡ k - d + d = omega arith in
    let one : k - d ≡ k - d - 1 + 1 = omega arith in
    ap (λ (x : ℕ). n % 2 ^ x / 2 ^ d % 2) low ∙ ap (λ (x : ℕ). x % 2) (field n (k - d) d)
    ∙ ap (λ (x : ℕ). n / 2 ^ d % 2 ^ x % 2) one ∙ mod-mod-pow (n / 2 ^ d) (k - d - 1) 1

pub digit_past : (k n d : ℕ) → n < 2 ^ k → k ≤ d → digit d n ≡ 0
digit_past k n d h l = ap (λ (x : ℕ). x % 2) (div-eq_of_lt (lt_of_lt_of_le h (pow_mono l)))

-- ---- the lowest bit of a word

-- bit k of w is 1, and the bits below it are 0
pub record Lowest (w k : ℕ) : Type 0 where
  pub place : k < 64
  pub one : digit k w ≡ 1
  pub clear : w % 2 ^ k ≡ 0

Trailing : ℕ → ℕ → ℕ → Type 0
Trailing n w k = (k < n) × (digit k w ≡ 1) × (w % 2 ^ k ≡ 0)

trailing_step : (n w d k : ℕ) → w % 2 ≡ d → (w ≡ 0 → ⊥) → ((w / 2 ≡ 0 → ⊥) → Trailing n (w / 2) k) → Trailing (suc n) w (under d k)
unfolding Trailing
trailing_step n w zero k e h f =
    let r = f (λ (z : w / 2 ≡ 0). h (omega arith)) in
    let l : k < n = r.0 in
    let even : w % 2 ^ suc k ≡ w / 2 % 2 ^ k * 2 + w % 2 = ap (λ (x : ℕ). w % 2 ^ x) (sym (add-one k)) ∙ mod-pow-add w k 1 in (
      omega arith,
      ap (λ (x : ℕ). x % 2) (sym (shr-shr w 1 k ∙ ap (λ (x : ℕ). w / 2 ^ x) (one-add k))) ∙ r.1,
      omega (arith, even, r.2, e),
    )
trailing_step n w (suc d) k e h f = (omega arith, omega (arith, div-one w, e), mod-one w)

trailing : (n w : ℕ) → (w ≡ 0 → ⊥) → w < 2 ^ n → Trailing n w (count_trailing_zeros n w)
unfolding count_trailing_zeros
trailing zero w h l = let z : w ≡ 0 = omega arith in absurd (h z)
trailing (suc n) w h l =
    trailing_step n w (w % 2) (count_trailing_zeros n (w / 2)) refl h (λ (z : w / 2 ≡ 0 → ⊥). trailing n (w / 2) z (omega (arith, pow-suc 2 n)))

pub trailing_lowest : (w k : ℕ) → (w ≡ 0 → ⊥) → w < 2 ^ 64 → k ≡ count_trailing_zeros 64 w → Lowest w k
unfolding Trailing
trailing_lowest w k h l e =
    let t = trailing 64 w h l in
    record {
      place = subst (λ (x : ℕ). x < 64) (sym e) t.0;
      one = ap (λ (x : ℕ). digit x w) e ∙ t.1;
      clear = ap (λ (x : ℕ). w % 2 ^ x) e ∙ t.2;
    }

module _ (w k : ℕ) (t : Lowest w k) where
  low_end : w % 2 ^ suc k ≡ 2 ^ k
  low_end =
      ap (λ (x : ℕ). w % 2 ^ x) (sym (one-add k)) ∙ mod-pow-add w 1 k ∙ ap₂ (λ (x y : ℕ). x * 2 ^ k + y) t.one t.clear
      ∙ omega (arith, one-mul (2 ^ k))

  low_parts : w ≡ w / 2 ^ suc k * 2 ^ suc k + 2 ^ k
  low_parts = sym (split w (suc k)) ∙ ap (λ (x : ℕ). w / 2 ^ suc k * 2 ^ suc k + x) low_end

  -- the word without it
  pub lowest_rest : bit_and w (w - 1) ≡ w / 2 ^ suc k * 2 ^ suc k
  lowest_rest =
      let less : w - 1 ≡ w / 2 ^ suc k * 2 ^ suc k + (2 ^ k - 1) = omega (arith, low_parts, pow_pos k) in
      let wide : 2 ^ k < 2 ^ suc k = pow-lt (omega arith) in
      ap₂ bit_and low_parts less
      ∙ and_block (suc k) (w / 2 ^ suc k) (w / 2 ^ suc k) (2 ^ k) (2 ^ k - 1) wide (omega arith)
      ∙ ap₂ (λ (x y : ℕ). x * 2 ^ suc k + y) (and_self (w / 2 ^ suc k)) none ∙ omega arith
    where
      none : bit_and (2 ^ k) (2 ^ k - 1) ≡ 0
      none = and_mask (2 ^ k) k ∙ ap (λ (x : ℕ). x % 2 ^ k) (sym (omega (arith, one-mul (2 ^ k)))) ∙ low 1 k (pow_pos k)

  pub lowest_less : bit_and w (w - 1) < w
  lowest_less = omega (arith, lowest_rest, low_parts, pow_pos k)

  pub below_lowest : (d : ℕ) → d < k → digit d w ≡ 0
  below_lowest d l = sym (digit_mod k w d l) ∙ ap (digit d) t.clear ∙ digit_past 0 0 d (omega arith) (omega arith)

  pub above_lowest : (d : ℕ) → k < d → digit d (bit_and w (w - 1)) ≡ digit d w
  above_lowest d l =
      let up : d ≡ suc k + (d - suc k) = omega arith in
      ap (digit d) lowest_rest ∙ ap (λ (x : ℕ). digit x (w / 2 ^ suc k * 2 ^ suc k)) up
      ∙ ap (λ (x : ℕ). x % 2) (sym (shr-shr (w / 2 ^ suc k * 2 ^ suc k) (suc k) (d - suc k)))
      ∙ ap (λ (x : ℕ). x / 2 ^ (d - suc k) % 2) (shl-shr (w / 2 ^ suc k) (suc k))
      ∙ ap (λ (x : ℕ). x % 2) (shr-shr w (suc k) (d - suc k)) ∙ ap (λ (x : ℕ). digit x w) (sym up)

  pub lowest_gone : (d : ℕ) → d < suc k → digit d (bit_and w (w - 1)) ≡ 0
  lowest_gone d l =
      ap (digit d) lowest_rest ∙ sym (digit_mod (suc k) (w / 2 ^ suc k * 2 ^ suc k) d l)
      ∙ ap (digit d) (ap (λ (x : ℕ). x % 2 ^ suc k) (sym (add-zero (w / 2 ^ suc k * 2 ^ suc k))) ∙ low (w / 2 ^ suc k) (suc k) (pow_pos (suc k)))
      ∙ digit_past 0 0 d (omega arith) (omega arith)
