-- The XOR of the words that a word marks is linear in the marks, and one mark gives its own word. Assumes nothing.
use mathlib.Core.Path.{◌≡◌, refl, sym, ap, ◌∙◌}
use mathlib.Core.Logic.{dite}
use mathlib.Core.List.{List}
use Prim.Native.Nat.{ℕ, zero, suc, ◌+◌, ◌*◌, ◌/◌, ◌%◌, ◌^◌, ◌≤◌, ◌<◌}
use native.Mathlib.Nat.{zero-mul, one-mul, lt-suc_self, div_self}
use native.Mathlib.Decide.{dec_lt}
use native.Mathlib.Omega.{arith}
use lib.Bits.{bit_xor, xor_zero_r, xor_self}
use lib.ListN.{length, get_or, get_or-eq_default}
use lib.Pow.{pow_pos, pow-lt}
use Rattle.word.specs.Word.{digit}
use Rattle.word.specs.Span.{xor_below}
use Rattle.word.specs.Marked.{xor_marked}
use Rattle.word.proofs.Laws.{mod2_lt, digit_xor, parity_pow, parity_comm}
use Rattle.word.proofs.LowestLaws.{digit_past}
use Rattle.word.proofs.XorLaws.{xor_below_ext, xor_below_zero, xor_below_one, xor_below_xor}

-- a word taken as often as the sum of two digits says, mod 2
taken_xor : (d e w : ℕ) → d < 2 → e < 2 → (d + e) % 2 * w ≡ bit_xor (d * w) (e * w)
taken_xor zero zero w hd he = rw (zero-mul w) refl
taken_xor zero (suc zero) w hd he = rw (zero-mul w) refl
taken_xor zero (suc (suc e)) w hd he = let z : ⊥ = omega arith in absurd z
taken_xor (suc zero) zero w hd he = rw (zero-mul w) (sym (xor_zero_r (1 * w)))
taken_xor (suc zero) (suc zero) w hd he = zero-mul w ∙ sym (xor_self (1 * w))
taken_xor (suc zero) (suc (suc e)) w hd he = let z : ⊥ = omega arith in absurd z
taken_xor (suc (suc d)) e w hd he = let z : ⊥ = omega arith in absurd z

-- the digits of a power of two
digit_one : (i : ℕ) → digit i (2 ^ i) ≡ 1
digit_one i = ap (λ (x : ℕ). x % 2) (div_self (pow_pos i))

digit_above : (i j : ℕ) → i < j → digit j (2 ^ i) ≡ 0
digit_above i j h = digit_past (suc i) (2 ^ i) j (pow-lt (lt-suc_self i)) h

digit_other : (i j : ℕ) → (j ≡ i → ⊥) → digit j (2 ^ i) ≡ 0
digit_other i j h =
    dite (dec_lt i j) (digit_above i j)
    (λ (z : i < j → ⊥).
    let below : j < i = omega arith in
    sym (parity_pow j (2 ^ i)) ∙ parity_comm (2 ^ j) (2 ^ i) ∙ parity_pow i (2 ^ j) ∙ digit_above j i below)

module _ (ws : List ℕ) where
  pub marked_zero : xor_marked ws 0 ≡ 0
  unfolding xor_marked
  marked_zero =
      xor_below_zero (length ws) (λ i. digit i 0 * get_or ws i 0)
      (λ i l. ap (λ (d : ℕ). d * get_or ws i 0) (digit_past 0 0 i (omega arith) (omega arith)) ∙ zero-mul (get_or ws i 0))

  pub marked_xor : (x y : ℕ) → xor_marked ws (bit_xor x y) ≡ bit_xor (xor_marked ws x) (xor_marked ws y)
  unfolding xor_marked
  marked_xor x y =
      xor_below_ext (length ws) (λ i. digit i (bit_xor x y) * get_or ws i 0) (λ i. bit_xor (digit i x * get_or ws i 0) (digit i y * get_or ws i 0))
      (λ i l.
      ap (λ (d : ℕ). d * get_or ws i 0) (digit_xor i x y)
      ∙ taken_xor (digit i x) (digit i y) (get_or ws i 0) (mod2_lt (x / 2 ^ i)) (mod2_lt (y / 2 ^ i)))
      ∙ xor_below_xor (length ws) (λ i. digit i x * get_or ws i 0) (λ i. digit i y * get_or ws i 0)

  -- one mark
  pub marked_one : (k : ℕ) → xor_marked ws (2 ^ k) ≡ get_or ws k 0
  unfolding xor_marked
  marked_one k = dite (dec_lt k (length ws)) inside past
    where
      other : (i : ℕ) → (i ≡ k → ⊥) → digit i (2 ^ k) * get_or ws i 0 ≡ 0
      other i h = ap (λ (d : ℕ). d * get_or ws i 0) (digit_other k i h) ∙ zero-mul (get_or ws i 0)

      inside : k < length ws → xor_below (length ws) (λ i. digit i (2 ^ k) * get_or ws i 0) ≡ get_or ws k 0
      inside l =
          xor_below_one (length ws) (λ i. digit i (2 ^ k) * get_or ws i 0) k l (λ i h d. other i d)
          ∙ ap (λ (d : ℕ). d * get_or ws k 0) (digit_one k) ∙ one-mul (get_or ws k 0)

      past : (k < length ws → ⊥) → xor_below (length ws) (λ i. digit i (2 ^ k) * get_or ws i 0) ≡ get_or ws k 0
      past l =
          let end : length ws ≤ k = omega arith in
          xor_below_zero (length ws) (λ i. digit i (2 ^ k) * get_or ws i 0) (λ i h. other i (λ (d : i ≡ k). omega arith))
          ∙ sym (get_or-eq_default ws 0 end)
