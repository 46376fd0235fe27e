-- A word after some clocks from the powers of the register: bit i of a word, j clocks later, is bit 0 after i + j clocks, and a clock
-- with all cells 0 is linear. Assumes nothing.
use mathlib.Core.Path.{◌≡◌, refl, sym, ap, ap₂, ◌∙◌}
use mathlib.Core.List.{List, []}
use Prim.Native.Nat.{ℕ, zero, suc, ◌+◌, ◌-◌, ◌*◌, ◌/◌, ◌%◌, ◌^◌, ◌≤◌, ◌<◌, min}
use native.Mathlib.Nat.{add-zero, add-suc, pow-suc, mod-one, mod-lt, mod-eq_of_lt, one-mul, zero-mul}
use native.Mathlib.Numerals.{add-one, one-add}
use native.Mathlib.Omega.{arith}
use lib.Bits.{bit_xor, xor_comm, xor_shifted, xor_zero_r}
use lib.ListN.{length, take, drop, get_or, length-drop}
use lib.Pow.{pow_pos, pow-lt, mod-pow-add}
use lib.Seq.{get_or-take, get_or-drop, length-take-le}
use Rattle.word.specs.Word.{digit}
use Rattle.word.proofs.Laws.{mod2_lt}
use Rattle.register.specs.Circuit.{Circuit, circuit, advanced}
use Rattle.chains.specs.Driven.{chosen, driven}
use Rattle.register.proofs.Laws.{advanced_xor, advanced_zero}
use Rattle.chains.proofs.Laws.{driven_none, driven_suc}
use Rattle.signatures.specs.Later.{later}
use Rattle.rows.specs.Marks.{bits}
use Rattle.powers.specs.Powers.{from_powers}
use Rattle.word.proofs.LowestLaws.{digit_past}

-- ---- clocks with all cells 0

-- nothing drives the register that holds the state
pub idle_state : (m t s m' t' s' next : ℕ) → m' ≡ m → t' ≡ t → s' ≡ s → next ≡ bit_xor (advanced (min m' 64) t' s') 0
    → next ≡ advanced (min m 64) t s
idle_state m t s m' t' s' next em et es e =
    e ∙ xor_zero_r (advanced (min m' 64) t' s') ∙ ap₂ (λ (x y : ℕ). advanced (min x 64) y s') em et ∙ ap (advanced (min m 64) t) es

advanced_power : (m t i : ℕ) → suc i < m → advanced m t (2 ^ i) ≡ 2 ^ suc i
unfolding advanced
advanced_power m t i h =
    let top : i < m - 1 = omega arith in
    ap₂ bit_xor (ap (λ (x : ℕ). x % 2 ^ m) (sym (pow-suc 2 i)) ∙ mod-eq_of_lt (pow-lt h))
    (ap (λ (d : ℕ). chosen d t) (digit_past (m - 1) (2 ^ i) (m - 1) (pow-lt top) (omega arith)))
    ∙ xor_zero_r (2 ^ suc i)

module _ (k : Circuit) where
  pub later_zero : (j : ℕ) → later k j 0 ≡ 0
  unfolding later
  later_zero zero = refl
  later_zero (suc j) = ap (advanced k.width k.taps) (later_zero j) ∙ advanced_zero k.width k.taps

  pub later_none : (w : ℕ) → w ≡ later k 0 w
  unfolding later
  later_none w = refl

  pub later_xor : (j a b : ℕ) → later k j (bit_xor a b) ≡ bit_xor (later k j a) (later k j b)
  unfolding later
  later_xor zero a b = refl
  later_xor (suc j) a b =
      ap (advanced k.width k.taps) (later_xor j a b) ∙ advanced_xor k.width k.taps (later k j a) (later k j b)

  pub later_add : (i j w : ℕ) → later k (i + j) w ≡ later k j (later k i w)
  unfolding later
  later_add i zero w = ap (λ (x : ℕ). later k x w) (add-zero i)
  later_add i (suc j) w = ap (λ (x : ℕ). later k x w) (add-suc i j) ∙ ap (advanced k.width k.taps) (later_add i j w)

  pub later_suc : (j w : ℕ) → advanced k.width k.taps (later k j w) ≡ later k (j + 1) w
  unfolding later
  later_suc j w = sym (ap (λ (x : ℕ). later k x w) (add-one j))

  -- bit 0 moves up by one place in each clock until it leaves the width
  later_one : (i : ℕ) → i < k.width → later k i 1 ≡ 2 ^ i
  unfolding later
  later_one zero h = refl
  later_one (suc i) h = ap (advanced k.width k.taps) (later_one i (omega arith)) ∙ advanced_power k.width k.taps i h

  -- ---- a word from its bits

  module _ (ps : List ℕ) (j w : ℕ) (right : (i : ℕ) → i < k.width → get_or ps i 0 ≡ later k (i + j) 1) where
    bit_later : (d n : ℕ) → d < 2 → n < k.width → later k j (d * 2 ^ n) ≡ chosen d (get_or ps n 0)
    bit_later zero n h l = ap (later k j) (zero-mul (2 ^ n)) ∙ later_zero j
    bit_later (suc zero) n h l = ap (later k j) (one-mul (2 ^ n) ∙ sym (later_one n l)) ∙ sym (later_add n j 1) ∙ sym (right n l)
    bit_later (suc (suc d)) n h l = let z : ⊥ = omega arith in absurd z

    low_bits : (n : ℕ) → w % 2 ^ suc n ≡ bit_xor (w % 2 ^ n) (digit n w * 2 ^ n)
    low_bits n =
        ap (λ (x : ℕ). w % 2 ^ x) (sym (one-add n)) ∙ mod-pow-add w 1 n ∙ sym (xor_shifted (digit n w) n (w % 2 ^ n) (mod-lt w (pow_pos n)))
        ∙ xor_comm (digit n w * 2 ^ n) (w % 2 ^ n)

    bits_later : (n : ℕ) → n ≤ k.width → driven ps (bits w) n ≡ later k j (w % 2 ^ n)
    bits_later zero h = driven_none ps (bits w) ∙ sym (ap (later k j) (mod-one w) ∙ later_zero j)
    bits_later (suc n) h =
        driven_suc ps (bits w) n
        ∙ ap₂ bit_xor (bits_later n (omega arith)) (sym (bit_later (digit n w) n (mod2_lt (w / 2 ^ n)) h))
        ∙ sym (ap (later k j) (low_bits n) ∙ later_xor j (w % 2 ^ n) (digit n w * 2 ^ n))

    pub from_powers_lem : length ps ≡ k.width → w < 2 ^ k.width → from_powers ps w ≡ later k j w
    unfolding from_powers
    from_powers_lem e h = ap (driven ps (bits w)) e ∙ bits_later k.width (omega arith) ∙ ap (later k j) (mod-eq_of_lt h)

  -- ---- the list of powers

  -- as many of them as the width, from the power j on
  pub powers_part : (ps : List ℕ) (j : ℕ) → length ps ≡ 576 → ((i : ℕ) → i < j + k.width → get_or ps i 0 ≡ later k i 1) → j + k.width ≤ 576
      → (length (take k.width (drop j ps)) ≡ k.width) × ((i : ℕ) → i < k.width → get_or (take k.width (drop j ps)) i 0 ≡ later k (i + j) 1)
  powers_part ps j e right h = (
    length-take-le k.width (drop j ps) (omega (arith, length-drop j ps)),
    (λ i l.
        let sum : j + i ≡ i + j = omega arith in
        get_or-take k.width (drop j ps) i 0 l ∙ get_or-drop j ps i 0 ∙ right (j + i) (omega arith) ∙ ap (λ (x : ℕ). later k x 1) sum),
  )

-- neither the inversion word nor the spread words matter to a word that nothing drives or inverts
pub later_same : (m t v : ℕ) (ws : List ℕ) (j w : ℕ) → later (circuit m t 0 []) j w ≡ later (circuit m t v ws) j w
unfolding later
later_same m t v ws zero w = refl
later_same m t v ws (suc j) w = ap (advanced m t) (later_same m t v ws j w)
