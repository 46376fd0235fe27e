-- The words of m single bits, in 64 slots with 0 behind them, and the basis beside them: the 64 single bits, those from m on dead. Assumes nothing.
use mathlib.Core.Path.{◌≡◌, refl, sym, ap, ◌∙◌, subst}
use mathlib.Core.Logic.{dite}
use mathlib.Core.List.{List, [], ◌∷◌, ◌++◌}
use Prim.Native.Nat.{ℕ, zero, suc, ◌+◌, ◌-◌, ◌*◌, ◌/◌, ◌%◌, ◌^◌, ◌≤◌, ◌<◌, min}
use native.Mathlib.Nat.{suc-mul}
use native.Mathlib.Decide.{dec_lt}
use native.Mathlib.Omega.{arith}
use lib.Bits.{bit_xor, xor_shifted}
use lib.ListN.{length, get_or, length-append, get_or-replicate, get_or-eq_default}
use lib.Pow.{pow_pos, pow-lt, pow_mono, pow-add}
use Rattle.word.specs.Word.{digit, parity, low_mask}
use Rattle.word.specs.Parities.{parities}
use Rattle.word.specs.Zeros.{zeros, filled}
use Rattle.word.proofs.Laws.{mod2_lt, parity_zero, parity_pow, digit_xor}
use Rattle.word.proofs.LowestLaws.{digit_past}
use Rattle.word.proofs.FrontLaws.{length_zeros}
use Rattle.combinations.specs.Step.{units}
use Rattle.combinations.proofs.Units.{length_units, units_at}
use Rattle.turned_words.specs.Turned.{dead_behind}
use Rattle.turned_words.proofs.KeptLaws.{kept_front}
use Rattle.turned_words.proofs.TurnedLaws.{power_other}
use Rattle.column_basis.specs.Basis.{Held}
use Rattle.spread_words.proofs.SpreadLaws.{digit_ones}
use Rattle.spread_words.proofs.TurnLaws.{parities_none}

-- ---- zeros behind a list

zeros_at : (n b : ℕ) → get_or (zeros n) b 0 ≡ 0
zeros_at n b =
    dite (dec_lt b n) (λ (l : b < n). get_or-replicate n b 0 0 l)
    (λ (l : b < n → ⊥). get_or-eq_default (zeros n) 0 (omega (arith, length_zeros n)))

padded_at : (l : List ℕ) (n b : ℕ) → get_or (l ++ zeros n) b 0 ≡ get_or l b 0
padded_at [] n b = zeros_at n b
padded_at (w ∷ l) n zero = refl
padded_at (w ∷ l) n (suc b) = padded_at l n b

-- ---- m words

module _ (m : ℕ) (h : m ≤ 64) where
  abbrev slots : List ℕ
  slots = filled (units m) 64

  behind : dead_behind m ≡ (2 ^ (64 - m) - 1) * 2 ^ m
  unfolding low_mask
  behind =
      let same : min m 64 ≡ m = omega arith in
      let all : 64 - m + m ≡ 64 = omega arith in
      let product : 2 ^ 64 ≡ 2 ^ (64 - m) * 2 ^ m = ap (λ (n : ℕ). 2 ^ n) (sym all) ∙ pow-add 2 (64 - m) m in
      let some : 2 ^ (64 - m) ≡ suc (2 ^ (64 - m) - 1) = omega (arith, pow_pos (64 - m)) in
      let more : 2 ^ 64 ≡ (2 ^ (64 - m) - 1) * 2 ^ m + 2 ^ m = product ∙ ap (λ (x : ℕ). x * 2 ^ m) some ∙ suc-mul (2 ^ (64 - m) - 1) (2 ^ m) in
      ap (λ (n : ℕ). 2 ^ 64 - 1 - (2 ^ n - 1)) same ∙ omega (arith, more, pow_pos m)

  -- the dead bits and the others are all of them
  both : bit_xor (dead_behind m) (2 ^ m - 1) ≡ 2 ^ 64 - 1
  unfolding low_mask
  both =
      let below : 2 ^ m - 1 < 2 ^ m = omega (arith, pow_pos m) in
      let same : min m 64 ≡ m = omega arith in
      let mask : low_mask m ≡ 2 ^ m - 1 = ap (λ (n : ℕ). 2 ^ n - 1) same in
      let few : 2 ^ m ≤ 2 ^ 64 = most in
      ap (λ (x : ℕ). bit_xor x (2 ^ m - 1)) behind ∙ xor_shifted (2 ^ (64 - m) - 1) m (2 ^ m - 1) below
      ∙ ap (λ (x : ℕ). x + (2 ^ m - 1)) (sym behind) ∙ omega (arith, mask, few, pow_pos m)
    where
      most : 2 ^ m ≤ 2 ^ 64
      most = pow_mono h

  digits : (k : ℕ) → k < 64 → (digit k (dead_behind m) + digit k (2 ^ m - 1)) % 2 ≡ 1
  digits k l = sym (digit_xor k (dead_behind m) (2 ^ m - 1)) ∙ ap (digit k) both ∙ digit_ones 64 k l

  alive : (k : ℕ) → k < m → digit k (dead_behind m) ≡ 0
  alive k l = only (digit k (dead_behind m)) (digit k (2 ^ m - 1)) (mod2_lt (dead_behind m / 2 ^ k)) (digit_ones m k l) (digits k (omega arith))
    where
      only : (x y : ℕ) → x < 2 → y ≡ 1 → (x + y) % 2 ≡ 1 → x ≡ 0
      only x y a b c = omega arith

  dead : (k : ℕ) → m ≤ k → k < 64 → digit k (dead_behind m) ≡ 1
  dead k l lk =
      let below : 2 ^ m - 1 < 2 ^ m = omega (arith, pow_pos m) in
      only (digit k (dead_behind m)) (digit k (2 ^ m - 1)) (mod2_lt (dead_behind m / 2 ^ k)) (digit_past m (2 ^ m - 1) k below l) (digits k lk)
    where
      only : (x y : ℕ) → x < 2 → y ≡ 0 → (x + y) % 2 ≡ 1 → x ≡ 1
      only x y a b c = omega arith

  long : length slots ≡ 64
  long = length-append (units m) (zeros (64 - length (units m))) ∙ omega (arith, length_units m, length_zeros (64 - length (units m)))

  front_slot : (k : ℕ) → k < m → get_or slots k 0 ≡ 2 ^ k
  front_slot k l = padded_at (units m) (64 - length (units m)) k ∙ units_at m k l

  back_slot : (k : ℕ) → m ≤ k → get_or slots k 0 ≡ 0
  back_slot k l = padded_at (units m) (64 - length (units m)) k ∙ get_or-eq_default (units m) 0 (omega (arith, length_units m))

  small : (k : ℕ) → get_or slots k 0 < 2 ^ 64
  small k =
      dite (dec_lt k m) (λ (l : k < m). (let below : k < 64 = omega arith in subst (λ (x : ℕ). x < 2 ^ 64) (sym (front_slot k l)) (pow-lt below)))
      (λ (l : k < m → ⊥). subst (λ (x : ℕ). x < 2 ^ 64) (sym (back_slot k (omega arith))) (pow_pos 64))

  gone : (k : ℕ) → digit k (dead_behind m) ≡ 1 → get_or slots k 0 ≡ 0
  gone k e =
      dite (dec_lt k m) (λ (l : k < m). (let z : ⊥ = omega (arith, e, alive k l) in absurd z)) (λ (l : k < m → ⊥). back_slot k (omega arith))

  own : (i j : ℕ) → i < 64 → digit i (dead_behind m) ≡ 0 → digit j (get_or slots i 0) ≡ digit j (2 ^ i)
  own i j li e =
      dite (dec_lt i m) (λ (l : i < m). ap (digit j) (front_slot i l))
      (λ (l : i < m → ⊥). (let z : ⊥ = omega (arith, e, dead i (omega arith) li) in absurd z))

  even : (d : ℕ) → digit d (dead_behind m) ≡ 1 → (i : ℕ) → parity (get_or slots i 0) (2 ^ d) ≡ 0
  even d e i =
      dite (dec_lt i m)
      (λ (l : i < m).
      ap (λ (x : ℕ). parity x (2 ^ d)) (front_slot i l) ∙ parity_pow i (2 ^ d)
      ∙ power_other i d (λ (q : i ≡ d). (let z : ⊥ = omega (arith, alive i l, ap (λ (k : ℕ). digit k (dead_behind m)) q, e) in z)))
      (λ (l : i < m → ⊥). ap (λ (x : ℕ). parity x (2 ^ d)) (back_slot i (omega arith)) ∙ parity_zero (2 ^ d))

  pub units_held : Held (units m) (units 64) (dead_behind m)
  units_held =
      record {
        slots = slots;
        hold = record {
          wide = long;
          small = small;
          gone = gone;
          own = λ i j li a b. own i j li a;
          even = λ d ld e. ap (parities slots) (units_at 64 d ld) ∙ parities_none slots (2 ^ d) (λ i l. even d e i);
          held =
              kept_front (dead_behind m) (units m) (zeros (64 - length (units m))) (λ i l. alive i (omega (arith, length_units m)))
              (λ i l b. dead i (omega (arith, length_units m)) (omega (arith, length_units m, length_zeros (64 - length (units m)))));
        };
      }
