-- The laws of the clock that the crates above cite: two clocks of one register differ as a clock without inversion of what they differ
-- in, a tap word with bit 0 loses no state, a state stays within the width. Assumes nothing.
use mathlib.Core.Path.{◌≡◌, sym, ap, ap₂, ◌∙◌}
use mathlib.Core.Bool.{false}
use mathlib.Core.Logic.{⊎_elim}
use Prim.Native.Nat.{ℕ, zero, suc, ◌+◌, ◌-◌, ◌*◌, ◌/◌, ◌%◌, ◌^◌, ◌≤◌, ◌<◌}
use native.Mathlib.Numerals.{add-one}
use native.Mathlib.Nat.{mod-lt, mod-eq_of_lt, div-one, not-suc-le-zero}
use native.Mathlib.Omega.{arith}
use borrow.Author.Tests.{eqb-false}
use lib.Bits.{bit_xor, xor_zero_r, xor_lt, xor_mod, xor_self}
use lib.Dec.{eqb}
use lib.ListN.{get_or}
use lib.Pow.{pow_pos, mod-pow-add}
use Rattle.word.specs.Word.{digit, beyond}
use Rattle.word.proofs.Laws.{mod2_lt, bit_cases, xor_zero_eq, xor_cancel_right, digit_xor}
use Rattle.word.proofs.BoolLaws.{or_false_left, or_false_right}
use Rattle.rows.specs.Row.{Cells}
use Rattle.chains.specs.Driven.{chosen, driven}
use Rattle.chains.proofs.Laws.{chosen_xor, chosen_lt, driven_ext, driven_zero, driven_lt, driven_xor}
use Rattle.register.specs.Circuit.{Circuit, uninverted, chains, advanced, clocked, bad_taps, bad_inversion}
use Rattle.word.proofs.WordLaws.{xor_crosswise, xor_double, below_top, within}

-- ---- a clock with all cells 0

pub advanced_xor : (m t a b : ℕ) → advanced m t (bit_xor a b) ≡ bit_xor (advanced m t a) (advanced m t b)
unfolding advanced
advanced_xor m t a b =
    ap₂ bit_xor (ap (λ (x : ℕ). x % 2 ^ m) (xor_double a b) ∙ xor_mod (a * 2) (b * 2) m)
    (ap (λ (d : ℕ). chosen d t) (digit_xor (m - 1) a b)
    ∙ chosen_xor (digit (m - 1) a) (digit (m - 1) b) t (mod2_lt (a / 2 ^ (m - 1))) (mod2_lt (b / 2 ^ (m - 1))))
    ∙ xor_crosswise (a * 2 % 2 ^ m) (b * 2 % 2 ^ m) (chosen (digit (m - 1) a) t) (chosen (digit (m - 1) b) t)

pub advanced_zero : (m t : ℕ) → advanced m t 0 ≡ 0
advanced_zero m t = advanced_xor m t 0 0 ∙ xor_self (advanced m t 0)

pub advanced_lt : (m t s : ℕ) → t < 2 ^ m → advanced m t s < 2 ^ m
unfolding advanced
advanced_lt m t s h = xor_lt m _ _ (mod-lt (s * 2) (pow_pos m)) (chosen_lt m (digit (m - 1) s) t h)

-- the state of a register of width k + 1 whose bit k is clear, where the shift gives 0
shift_zero : (k s : ℕ) → s < 2 ^ suc k → digit k s ≡ 0 → s * 2 % 2 ^ suc k ≡ 0 → s ≡ 0
shift_zero k s h d e =
    let less : s * 2 < 2 ^ suc k = omega (arith, below_top k s h d) in
    let same : s * 2 % 2 ^ suc k ≡ s * 2 = mod-eq_of_lt less in
    omega arith

advanced_kernel : (k t s : ℕ) → digit 0 t ≡ 1 → s < 2 ^ suc k → advanced (suc k) t s ≡ 0 → s ≡ 0
unfolding advanced
advanced_kernel k t s odd h e = ⊎_elim clear set (bit_cases (digit k s) (mod2_lt (s / 2 ^ k)))
  where
    given : bit_xor (s * 2 % 2 ^ suc k) (chosen (digit k s) t) ≡ 0
    given = let top : suc k - 1 ≡ k = omega arith in rw top at e

    clear : digit k s ≡ 0 → s ≡ 0
    clear d = shift_zero k s h d (sym (xor_zero_r (s * 2 % 2 ^ suc k)) ∙ (rw d at given))

    set : digit k s ≡ 1 → s ≡ 0
    set d =
        let same : s * 2 % 2 ^ suc k ≡ t = xor_zero_eq (s * 2 % 2 ^ suc k) t (rw d at given) in
        let even : s * 2 % 2 ^ suc k ≡ s * 2 / 2 % 2 ^ k * 2 + s * 2 % 2 = rw (add-one k) at (mod-pow-add (s * 2) k 1) in
        let z : ⊥ = omega (arith, div-one t) in
        absurd z

pub advanced_one_to_one : (m t a b : ℕ) → 1 ≤ m → digit 0 t ≡ 1 → a < 2 ^ m → b < 2 ^ m → advanced m t a ≡ advanced m t b → a ≡ b
advanced_one_to_one zero t a b h odd ha hb e = absurd (not-suc-le-zero h)
advanced_one_to_one (suc k) t a b h odd ha hb e =
    xor_zero_eq a b
    (advanced_kernel k t (bit_xor a b) odd (xor_lt (suc k) a b ha hb)
    (advanced_xor (suc k) t a b ∙ ap (λ (x : ℕ). bit_xor x (advanced (suc k) t b)) e ∙ xor_self (advanced (suc k) t b)))

-- ---- one clock

pub clocked_ext : (k : Circuit) (x y : Cells) (s : ℕ) → ((c : ℕ) → c < chains k → x c ≡ y c) → clocked k x s ≡ clocked k y s
unfolding clocked
clocked_ext k x y s h =
    ap (λ (d : ℕ). bit_xor (bit_xor (advanced k.width k.taps s) d) k.inversion) (driven_ext k.spread x y (chains k) h)

-- without inversion a clock is the shift and what the chains drive
pub clocked_uninverted : (k : Circuit) (x : Cells) (s : ℕ)
    → clocked (uninverted k) x s ≡ bit_xor (advanced k.width k.taps s) (driven k.spread x (chains k))
unfolding clocked
clocked_uninverted k x s = xor_zero_r (bit_xor (advanced k.width k.taps s) (driven k.spread x (chains k)))

pub clocked_zero : (k : Circuit) (s : ℕ) → clocked (uninverted k) (λ c. 0) s ≡ advanced k.width k.taps s
clocked_zero k s =
    clocked_uninverted k (λ c. 0) s ∙ ap (bit_xor (advanced k.width k.taps s)) (driven_zero k.spread (chains k))
    ∙ xor_zero_r (advanced k.width k.taps s)

pub clocked_xor : (k : Circuit) (x y : Cells) (a b : ℕ) → ((c : ℕ) → x c < 2) → ((c : ℕ) → y c < 2)
    → clocked k (λ c. (x c + y c) % 2) (bit_xor a b) ≡ bit_xor (clocked k x a) (clocked (uninverted k) y b)
unfolding clocked
clocked_xor k x y a b hx hy =
    let xa = bit_xor (advanced k.width k.taps a) (driven k.spread x (chains k)) in
    let yb = bit_xor (advanced k.width k.taps b) (driven k.spread y (chains k)) in
    ap₂ bit_xor
    (ap₂ bit_xor (advanced_xor k.width k.taps a b) (driven_xor k.spread x y (chains k) hx hy)
    ∙ xor_crosswise (advanced k.width k.taps a) (advanced k.width k.taps b) (driven k.spread x (chains k)) (driven k.spread y (chains k)))
    (sym (xor_zero_r k.inversion))
    ∙ xor_crosswise xa yb k.inversion 0

pub clocked_lt : (k : Circuit) (x : Cells) (s : ℕ) → k.taps < 2 ^ k.width → k.inversion < 2 ^ k.width
    → ((c : ℕ) → get_or k.spread c 0 < 2 ^ k.width) → clocked k x s < 2 ^ k.width
unfolding clocked
clocked_lt k x s ht hv hw =
    xor_lt k.width _ _
    (xor_lt k.width _ _ (advanced_lt k.width k.taps s ht) (driven_lt k.width k.spread x (chains k) hw)) hv

-- document 01: "With bit 0 set a clock loses no state."
pub clocked_one_to_one : (k : Circuit) (x : Cells) (a b : ℕ) → 1 ≤ k.width → digit 0 k.taps ≡ 1 → a < 2 ^ k.width
    → b < 2 ^ k.width → clocked k x a ≡ clocked k x b → a ≡ b
unfolding clocked
clocked_one_to_one k x a b hm odd ha hb e =
    advanced_one_to_one k.width k.taps a b hm odd ha hb
    (xor_same (advanced k.width k.taps a) (advanced k.width k.taps b) (driven k.spread x (chains k))
    (xor_same (bit_xor (advanced k.width k.taps a) (driven k.spread x (chains k)))
    (bit_xor (advanced k.width k.taps b) (driven k.spread x (chains k))) k.inversion e))
  where
    xor_same : (c d w : ℕ) → bit_xor c w ≡ bit_xor d w → c ≡ d
    xor_same c d w p = sym (xor_cancel_right c w) ∙ ap (λ (y : ℕ). bit_xor y w) p ∙ xor_cancel_right d w

-- ---- a tap word and an inversion word that are taken

pub good_taps : (m t : ℕ) → bad_taps m t ≡ false → (digit 0 t ≡ 1) × (t < 2 ^ m)
unfolding bad_taps
good_taps m t h = (
  ⊎_elim (λ (z : digit 0 t ≡ 0). absurd (eqb-false (digit 0 t) 0 (or_false_left (eqb (digit 0 t) 0) (beyond m t) h) z))
      (λ (o : digit 0 t ≡ 1). o) (bit_cases (digit 0 t) (mod2_lt (t / 2 ^ 0))),
  within m t (or_false_right (eqb (digit 0 t) 0) (beyond m t) h),
)

pub good_inversion : (m v : ℕ) → bad_inversion m v ≡ false → v < 2 ^ m
good_inversion m v h = within m v h
