-- Laws of words and of widths that name nothing of the register. Assumes nothing.
use mathlib.Core.Path.{◌≡◌, refl, sym, ap, ap₂, ◌∙◌}
use mathlib.Core.Bool.{Bool, true, false, ◌||◌}
use Prim.Native.Nat.{ℕ, suc, ◌*◌, ◌/◌, ◌^◌, ◌≤◌, ◌<◌}
use native.Mathlib.Numerals.{one-add}
use native.Mathlib.Nat.{add-zero, mod-lt, div-eq_of_lt}
use native.Mathlib.Omega.{arith}
use borrow.Author.Tests.{leb-false, ltb-false, lt-leb}
use lib.Bits.{bit_xor, bit_or, xor_block, or_lt, or_shr}
use lib.Dec.{ltb}
use lib.Pow.{pow_pos, shr_lt, split}
use Rattle.word.specs.Word.{digit, beyond, bad_width}
use Rattle.word.proofs.Laws.{xor_assoc, xor_left_comm, or_zero_left, or_zero_right}
use Rattle.word.proofs.BoolLaws.{or_false_left, or_false_right}

-- the XOR of two XORs, taken crosswise
pub xor_crosswise : (a b c d : ℕ) → bit_xor (bit_xor a b) (bit_xor c d) ≡ bit_xor (bit_xor a c) (bit_xor b d)
xor_crosswise a b c d =
    xor_assoc a b (bit_xor c d) ∙ ap (bit_xor a) (xor_left_comm b c d) ∙ sym (xor_assoc a c (bit_xor b d))

pub xor_scaled : (k a b : ℕ) → bit_xor a b * 2 ^ k ≡ bit_xor (a * 2 ^ k) (b * 2 ^ k)
xor_scaled k a b = simp add-zero at (sym (xor_block k a b 0 0 (pow_pos k) (pow_pos k)))

pub xor_double : (a b : ℕ) → bit_xor a b * 2 ≡ bit_xor (a * 2) (b * 2)
xor_double = xor_scaled 1

-- a word of k + 1 bits whose bit k is clear has k bits
pub below_top : (k s : ℕ) → s < 2 ^ suc k → digit k s ≡ 0 → s < 2 ^ k
below_top k s h d =
    let top : s / 2 ^ k < 2 = shr_lt 1 k (rw one-add h) in
    let clear : s / 2 ^ k ≡ 0 = omega arith in
    omega (arith, rw clear at (split s k), mod-lt s (pow_pos k))

pub within : (m w : ℕ) → beyond m w ≡ false → w < 2 ^ m
unfolding beyond
within m w h = leb-false (2 ^ m) w h

pub not_beyond : (m w : ℕ) → w < 2 ^ m → beyond m w ≡ false
unfolding beyond
not_beyond m w h = lt-leb (2 ^ m) w h

or_within : (m a b : ℕ) → bit_or a b < 2 ^ m → (a < 2 ^ m) × (b < 2 ^ m)
or_within m a b h = (below a (or_zero_left (a / 2 ^ m) (b / 2 ^ m) none), below b (or_zero_right (a / 2 ^ m) (b / 2 ^ m) none))
  where
    none : bit_or (a / 2 ^ m) (b / 2 ^ m) ≡ 0
    none = sym (or_shr a b m) ∙ div-eq_of_lt h

    below : (w : ℕ) → w / 2 ^ m ≡ 0 → w < 2 ^ m
    below w e = omega (arith, rw e at (split w m), mod-lt w (pow_pos m))

-- an OR has a bit at or above m exactly when one of its parts has
pub beyond_or : (m a b : ℕ) → beyond m (bit_or a b) ≡ (beyond m a || beyond m b)
beyond_or m a b = go (beyond m (bit_or a b)) refl (beyond m a) refl (beyond m b) refl
  where
    go : (r : Bool) → beyond m (bit_or a b) ≡ r → (x : Bool) → beyond m a ≡ x → (y : Bool) → beyond m b ≡ y → r ≡ (x || y)
    go true er true ex y ey = refl
    go true er false ex true ey = refl
    go true er false ex false ey = sym er ∙ not_beyond m (bit_or a b) (or_lt m a b (within m a ex) (within m b ey))
    go false er x ex y ey =
        let both = or_within m a b (within m (bit_or a b) er) in
        ap₂ ◌||◌ (sym (not_beyond m a both.0) ∙ ex) (sym (not_beyond m b both.1) ∙ ey)

pub good_width : (m : ℕ) → bad_width m ≡ false → (1 ≤ m) × (m ≤ 64)
unfolding bad_width
good_width m h =
    (ltb-false m 1 (or_false_left (ltb m 1) (ltb 64 m) h), ltb-false 64 m (or_false_right (ltb m 1) (ltb 64 m) h))
