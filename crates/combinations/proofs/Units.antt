-- The words of single bits: their XORs are all combinations, and only 0 is even with all of them. Assumes nothing.
use mathlib.Core.Path.{◌≡◌, refl, sym, ap, ap₂, ◌∙◌, subst}
use mathlib.Core.Bool.{true, ◌&&◌}
use mathlib.Core.Logic.{⊎_elim}
use mathlib.Core.List.{List, [], ◌∷◌, ◌++◌}
use Prim.Native.Nat.{ℕ, zero, suc, ◌+◌, ◌-◌, ◌*◌, ◌/◌, ◌%◌, ◌^◌, ◌<◌, ◌≤◌}
use native.Mathlib.Nat.{div_self, mul-div_cancel_left, le_dest, lt_of_not-le, div-eq_of_lt-le, not-suc-le-zero, le_of_suc-le-suc, eq-or-lt_of_le, one-mul, le-add_left, zero-add, suc-add, sub-add_cancel}
use native.Mathlib.Numerals.{add-one}
use native.Mathlib.Decide.{dec_le}
use native.Mathlib.Omega.{arith}
use lib.ListN.{length, get_or, take, set, length-append, get_or-append}
use lib.Seq.{get_or_at, take-suc-set, take-length, take-append-le}
use lib.Pow.{pow_pos, pow-add, shl_exact}
use lib.Bits.{bit_xor, xor_shr}
use Rattle.word.specs.Word.{digit}
use Rattle.word.proofs.Laws.{xor_cancel, parity_pow, parity_comm}
use Rattle.word.proofs.BoolLaws.{and_left, and_right}
use Rattle.combinations.specs.Combination.{x_free}
use Rattle.word.specs.Span.{is_xor_of}
use Rattle.combinations.specs.Step.{units}
use Rattle.combinations.proofs.XFree.{x_free_head, x_free_append}
use Rattle.word.proofs.SpanLaws.{xor_of_zero, xor_of_head, xor_of_xor, xor_of_left, xor_of_right}
use Rattle.combinations.proofs.Tops.{Tops, tops_nil, tops_snoc, top_under, shr_below}

-- ---- the digits of a power of 2

pub power_top : (i : ℕ) → 2 ^ i / 2 ^ i ≡ 1
power_top i = div_self (pow_pos i)

pub power_digit : (i j : ℕ) → i < j → digit i (2 ^ j) ≡ 0
power_digit i j h =
    let (d, e) = le_dest h in
    let p : 2 ^ j ≡ 2 ^ i * 2 ^ suc d = ap (λ (n : ℕ). 2 ^ n) (later i d j e) ∙ pow-add 2 i (suc d) in
    ap (λ (x : ℕ). x / 2 ^ i % 2) p ∙ ap (λ (x : ℕ). x % 2) (mul-div_cancel_left (2 ^ suc d) (pow_pos i)) ∙ even d
  where
    later : (i d j : ℕ) → suc i + d ≡ j → j ≡ i + suc d
    later i d j e = omega arith

    even : (d : ℕ) → 2 ^ suc d % 2 ≡ 0
    even d = omega arith

-- ---- the units

pub units_tops : (m : ℕ) → Tops m 0 (units m)
unfolding units
units_tops zero = tops_nil
units_tops (suc m) =
    tops_snoc m (2 ^ m) (omega arith) (units_tops m) (power_top m)
    (λ i h. power_digit i m (top_under m i (units_tops m) h))

pub length_units : (m : ℕ) → length (units m) ≡ m
unfolding units
length_units zero = refl
length_units (suc m) = length-append (units m) (2 ^ m ∷ []) ∙ omega (arith, length_units m)

pub units_at : (m i : ℕ) → i < m → get_or (units m) i 0 ≡ 2 ^ i
unfolding units
units_at zero i h = absurd (not-suc-le-zero h)
units_at (suc m) i h =
    ⊎_elim
    (λ (e : i ≡ m). ap (λ (n : ℕ). get_or (units m ++ 2 ^ m ∷ []) n 0) e ∙ get_or_at (units m) (2 ^ m) [] 0 m (length_units m) ∙ ap (λ (n : ℕ). 2 ^ n) (sym e))
    (λ (l : i < m).
    get_or-append (units m) (2 ^ m ∷ []) 0 i (subst (λ (n : ℕ). i < n) (sym (length_units m)) l) ∙ units_at m i l)
    (eq-or-lt_of_le (le_of_suc-le-suc h))

-- a word below 2 ^ (m + 1) that is not below 2 ^ m falls below it when bit m is XORed in
pub without_top : (m y : ℕ) → y < 2 ^ suc m → 2 ^ m ≤ y → bit_xor (2 ^ m) y < 2 ^ m
without_top m y h l =
    shr_below m (bit_xor (2 ^ m) y) (xor_shr (2 ^ m) y m ∙ ap₂ bit_xor (power_top m) (one m y h l))
  where
    one : (m y : ℕ) → y < 2 ^ suc m → 2 ^ m ≤ y → y / 2 ^ m ≡ 1
    one m y h l = div-eq_of_lt-le (2 ^ m) (omega arith) (omega arith)

-- whatever holds of the words below 2 ^ m and of 2 ^ m, and of the XOR of two, holds of those below 2 ^ (m + 1)
pub by_top_bit : (us : List ℕ) (m : ℕ) → ((y : ℕ) → y < 2 ^ m → is_xor_of us y ≡ true) → is_xor_of us (2 ^ m) ≡ true → (y : ℕ) → y < 2 ^ suc m → is_xor_of us y ≡ true
by_top_bit us m f t y h =
    elim (dec_le (2 ^ m) y) [
      | yes l ↦
          ap (is_xor_of us) (sym (xor_cancel (2 ^ m) y)) ∙ xor_of_xor us (2 ^ m) (bit_xor (2 ^ m) y) t (f (bit_xor (2 ^ m) y) (without_top m y h l))
      | no n ↦ f y (lt_of_not-le n)
    ]

pub units_span : (m y : ℕ) → y < 2 ^ m → is_xor_of (units m) y ≡ true
unfolding units
units_span zero y h = let z : y ≡ 0 = omega arith in rw z (xor_of_zero [])
units_span (suc m) y h =
    by_top_bit (units m ++ 2 ^ m ∷ []) m (λ x l. xor_of_left (units m) (2 ^ m ∷ []) x (units_span m x l))
    (xor_of_right (units m) (2 ^ m ∷ []) (2 ^ m) (xor_of_head (2 ^ m) [])) y h

pub units_dual : (m y : ℕ) → y < 2 ^ m → x_free (units m) y ≡ true → y ≡ 0
unfolding units
units_dual zero y h f = omega arith
units_dual (suc m) y h f =
    let both : (x_free (units m) y && x_free (2 ^ m ∷ []) y) ≡ true = sym (x_free_append (units m) (2 ^ m ∷ []) y) ∙ f in
    let clear : digit m y ≡ 0 = sym (parity_pow m y) ∙ parity_comm (2 ^ m) y ∙ x_free_head (2 ^ m) [] y (and_right (x_free (units m) y) _ both) in
    units_dual m y (lower m y h clear) (and_left _ _ both)
  where
    lower : (m y : ℕ) → y < 2 ^ suc m → digit m y ≡ 0 → y < 2 ^ m
    lower m y h c =
        elim (dec_le (2 ^ m) y) [
          | yes l ↦
              let one : y / 2 ^ m ≡ 1 = div-eq_of_lt-le (2 ^ m) (omega arith) (omega arith) in
              let z : ⊥ = omega arith in
              absurd z
          | no n ↦ lt_of_not-le n
        ]

-- ---- made place by place

pub one_bit : (i : ℕ) → i < 64 → (1 * 2 ^ i) % 18446744073709551616 ≡ 2 ^ i
one_bit i h = shl_exact {a = 1} 1 i 64 (omega arith) (omega arith) ∙ one-mul (2 ^ i)

-- one more place of a list is written
pub next_taken : (l us : List ℕ) (i v u : ℕ) → i < length l → take i l ≡ us → v ≡ u → take (i + 1) (set l i v) ≡ us ++ u ∷ []
next_taken l us i v u h e ev =
    ap (λ (n : ℕ). take n (set l i v)) (add-one i) ∙ take-suc-set l i v h ∙ ap₂ (λ (x : List ℕ) (y : ℕ). x ++ y ∷ []) e ev

-- the first m of more single bits
units_prefix : (m d : ℕ) → take m (units (d + m)) ≡ units m
unfolding units
units_prefix m zero = ap (λ (n : ℕ). take m (units n)) (zero-add m) ∙ ap (λ (n : ℕ). take n (units m)) (sym (length_units m)) ∙ take-length (units m)
units_prefix m (suc d) =
    ap (λ (n : ℕ). take m (units n)) (suc-add d m)
    ∙ take-append-le m (units (d + m)) (2 ^ (d + m) ∷ []) (subst (λ (n : ℕ). m ≤ n) (sym (length_units (d + m))) (le-add_left m d))
    ∙ units_prefix m d

pub units_front : (m : ℕ) → m ≤ 64 → take m (units 64) ≡ units m
units_front m h = ap (λ (n : ℕ). take m (units n)) (omega (arith, sub-add_cancel h)) ∙ units_prefix m (64 - m)
