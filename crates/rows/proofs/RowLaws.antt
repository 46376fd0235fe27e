-- The tests of the rows: rows past the end have no spare bit, and where no spare bit is set the bytes tell what the cells do.
use mathlib.Core.Path.{◌≡◌, refl, sym, ap, ap₂, ◌∙◌}
use mathlib.Core.Bool.{Bool, false, not, ◌&&◌, ◌||◌}
use mathlib.Core.Logic.{⊎_elim, dite}
use mathlib.Core.List.{List}
use Prim.Native.Nat.{ℕ, zero, suc, ◌+◌, ◌-◌, ◌*◌, ◌/◌, ◌%◌, ◌^◌, ◌≤◌, ◌<◌, min}
use native.Mathlib.Nat.{le_step, lt-suc_self}
use native.Mathlib.Numerals.{add-one}
use native.Mathlib.Decide.{dec_lt}
use native.Mathlib.Omega.{arith}
use borrow.Author.Tests.{eq-eqb, eqb-true, eqb-false, not-false}
use lib.Bits.{bit_and, bit_or, and_step, and_shr, and_le_r}
use lib.Dec.{eqb}
use lib.ListN.{length, get_or, drop, length-take, length-drop}
use lib.Pow.{shr_le}
use Rattle.word.specs.Word.{digit}
use Rattle.word.specs.Some.{any_below}
use Rattle.word.proofs.Laws.{bit_cases, or_zero_left, or_zero_right}
use Rattle.word.proofs.WordLaws.{below_top}
use Rattle.word.proofs.SomeLaws.{any_below_none, any_below_false}
use Rattle.word.proofs.BoolLaws.{or_false_left, or_false_right, and_none}
use Rattle.rows.specs.Row.{row_bytes, cell, spare_set}
use Rattle.rows.proofs.CellLaws.{cell_lt, cell_past}
use Rattle.rows.specs.Lists.{shares_bit}
use Rattle.rows.specs.Lists.{list_row}
use Rattle.word.proofs.RangeLaws.{same_failures}

-- ---- spare bits past the end of the rows

pub spare_past : (n : ℕ) (row : List ℕ) → length row ≤ n / 8 → spare_set n row ≡ false
unfolding spare_set
spare_past n row h =
    any_below_none (8 * row_bytes n - n) (λ k. eqb (cell row (n + k)) 1)
    (λ k l. ap (λ (x : ℕ). eqb x 1) (cell_past row (n + k) (omega arith)))

abbrev pub SpareRow : ℕ → List ℕ → ℕ → Bool
SpareRow n l t = spare_set n (list_row n l t)

pub spare_rows_none : (n : ℕ) (l : List ℕ) (count : ℕ) → length l ≡ 0 → false ≡ any_below count (SpareRow n l)
unfolding list_row
spare_rows_none n l count e =
    sym
    (any_below_none count (SpareRow n l)
    (λ k b. spare_past n (list_row n l k) (omega (arith, length-take (row_bytes n) (drop (row_bytes n * k) l), length-drop (row_bytes n * k) l))))

-- ---- a bit in common

pub or_not_zero : (a b : ℕ) → not (eqb (bit_or a b) 0) ≡ (not (eqb a 0) || not (eqb b 0))
or_not_zero a b = same_failures _ _ left right
  where
    left : not (eqb (bit_or a b) 0) ≡ false → (not (eqb a 0) || not (eqb b 0)) ≡ false
    left h =
        let z : bit_or a b ≡ 0 = eqb-true (bit_or a b) 0 (not-false (eqb (bit_or a b) 0) h) in
        rw (eq-eqb a 0 (or_zero_left a b z), eq-eqb b 0 (or_zero_right a b z))

    right : (not (eqb a 0) || not (eqb b 0)) ≡ false → not (eqb (bit_or a b) 0) ≡ false
    right h =
        let za : a ≡ 0 = eqb-true a 0 (not-false (eqb a 0) (or_false_left (not (eqb a 0)) (not (eqb b 0)) h)) in
        let zb : b ≡ 0 = eqb-true b 0 (not-false (eqb b 0) (or_false_right (not (eqb a 0)) (not (eqb b 0)) h)) in
        rw (za, zb)

-- the OR x of what the bytes before place i share isn't 0 exactly where they have a bit in common
pub Shared : List ℕ → List ℕ → ℕ → ℕ → Type 0
Shared v k i x = not (eqb x 0) ≡ any_below i (λ j. not (eqb (bit_and (get_or v j 0) (get_or k j 0)) 0))

pub shared_start : (v k : List ℕ) → Shared v k 0 0
unfolding Shared any_below
shared_start v k = refl

pub shared_turn : (v k : List ℕ) (i x : ℕ) → Shared v k i x → Shared v k (i + 1) (bit_or x (bit_and (get_or v i 0) (get_or k i 0)))
unfolding Shared any_below
shared_turn v k i x h =
    or_not_zero x (bit_and (get_or v i 0) (get_or k i 0)) ∙ ap (λ (b : Bool). b || not (eqb (bit_and (get_or v i 0) (get_or k i 0)) 0)) h
    ∙ ap (λ (n : ℕ). any_below n (λ j. not (eqb (bit_and (get_or v j 0) (get_or k j 0)) 0))) (sym (add-one i))

pub shared_end : (v k : List ℕ) (n i x : ℕ) → n ≡ min (length v) (length k) → Shared v k i x → i ≡ n → not (eqb x 0) ≡ shares_bit v k
unfolding Shared shares_bit
shared_end v k n i x e h z = h ∙ ap (λ (m : ℕ). any_below m (λ j. not (eqb (bit_and (get_or v j 0) (get_or k j 0)) 0))) (z ∙ e)

-- ---- bytes and cells

digit_and : (i a b : ℕ) → digit i (bit_and a b) ≡ min (digit i a) (digit i b)
digit_and i a b = ap (λ (x : ℕ). x % 2) (and_shr a b i) ∙ omega (arith, and_step (a / 2 ^ i) (b / 2 ^ i))

-- a word below 2 ^ i whose bits below i are clear is 0
clear_digits : (i w : ℕ) → w < 2 ^ i → ((j : ℕ) → j < i → digit j w ≡ 0) → w ≡ 0
clear_digits zero w h d = omega arith
clear_digits (suc i) w h d = clear_digits i w (below_top i w h (d i (lt-suc_self i))) (λ j l. d j (le_step l))

not_both : (x y : ℕ) → x < 2 → y < 2 → (eqb x 1 && eqb y 1) ≡ false → min x y ≡ 0
not_both zero y hx hy e = omega arith
not_both (suc zero) zero hx hy e = refl
not_both (suc zero) (suc zero) hx hy e = let z : ◌≡◌ {A = ℕ} 0 1 = cc in let w : ⊥ = omega arith in absurd w
not_both (suc zero) (suc (suc y)) hx hy e = let z : ⊥ = omega arith in absurd z
not_both (suc (suc x)) y hx hy e = let z : ⊥ = omega arith in absurd z

both_not : (x y : ℕ) → min x y ≡ 0 → (eqb x 1 && eqb y 1) ≡ false
both_not zero y e = refl
both_not (suc x) zero e = and_none (eqb (suc x) 1)
both_not (suc x) (suc y) e = let z : ⊥ = omega arith in absurd z

abbrev pub BothSet : List ℕ → List ℕ → ℕ → Bool
BothSet v k c = eqb (cell v c) 1 && eqb (cell k c) 1

module _ (n : ℕ) (v k : List ℕ) (lv : length v ≡ row_bytes n) (lk : length k ≡ row_bytes n) where
  -- chain c's bit of what the two bytes share
  shared_cell : (c : ℕ) → digit (c % 8) (bit_and (get_or v (c / 8) 0) (get_or k (c / 8) 0)) ≡ min (cell v c) (cell k c)
  shared_cell c = digit_and (c % 8) (get_or v (c / 8) 0) (get_or k (c / 8) 0)

  bytes_clear : shares_bit v k ≡ false → (c : ℕ) → c < n → BothSet v k c ≡ false
  unfolding shares_bit
  bytes_clear h c l =
      let byte : bit_and (get_or v (c / 8) 0) (get_or k (c / 8) 0) ≡ 0 =
      eqb-true (bit_and (get_or v (c / 8) 0) (get_or k (c / 8) 0)) 0
      (not-false _ (any_below_false (min (length v) (length k)) (λ i. not (eqb (bit_and (get_or v i 0) (get_or k i 0)) 0)) h (c / 8) (omega arith)))
      in
      both_not (cell v c) (cell k c)
      (sym (shared_cell c) ∙ ap (digit (c % 8)) byte ∙ omega (arith, shr_le 0 (c % 8)))

  module _ (spare : spare_set n k ≡ false) (small : (i : ℕ) → get_or k i 0 < 256) where
    -- a mark past chain n is clear
    mark_clear : (c : ℕ) → n ≤ c → c < 8 * row_bytes n → cell k c ≡ 0
    unfolding spare_set
    mark_clear c h l =
        let place : n + (c - n) ≡ c = omega arith in
        let off : (cell k c ≡ 1 → ⊥) =
        eqb-false (cell k c) 1
        (ap (λ (x : ℕ). eqb (cell k x) 1) (sym place) ∙ any_below_false (8 * row_bytes n - n) (λ j. eqb (cell k (n + j)) 1) spare (c - n) (omega arith))
        in
        ⊎_elim (λ (z : cell k c ≡ 0). z) (λ (o : cell k c ≡ 1). absurd (off o)) (bit_cases (cell k c) (cell_lt k c))

    cell_clear : any_below n (BothSet v k) ≡ false → (c : ℕ) → c < 8 * row_bytes n → min (cell v c) (cell k c) ≡ 0
    cell_clear h c l =
        dite (dec_lt c n)
        (λ (b : c < n). not_both (cell v c) (cell k c) (cell_lt v c) (cell_lt k c) (any_below_false n (BothSet v k) h c b))
        (λ (b : c < n → ⊥). omega (arith, mark_clear c (omega arith) l))

    cells_clear : any_below n (BothSet v k) ≡ false → shares_bit v k ≡ false
    unfolding shares_bit
    cells_clear h =
        any_below_none (min (length v) (length k)) (λ i. not (eqb (bit_and (get_or v i 0) (get_or k i 0)) 0))
        (λ i l. ap not (eq-eqb (bit_and (get_or v i 0) (get_or k i 0)) 0 (byte i (omega arith))))
      where
        byte : (i : ℕ) → i < row_bytes n → bit_and (get_or v i 0) (get_or k i 0) ≡ 0
        byte i l =
            clear_digits 8 (bit_and (get_or v i 0) (get_or k i 0)) (omega (arith, and_le_r (get_or v i 0) (get_or k i 0), small i))
            (λ j b. bit j b)
          where
            bit : (j : ℕ) → j < 8 → digit j (bit_and (get_or v i 0) (get_or k i 0)) ≡ 0
            bit j b =
                let place : (8 * i + j) / 8 ≡ i = omega arith in
                let low : (8 * i + j) % 8 ≡ j = omega arith in
                let inside : 8 * i + j < 8 * row_bytes n = omega arith in
                ap₂ (λ (x y : ℕ). digit y (bit_and (get_or v x 0) (get_or k x 0))) (sym place) (sym low)
                ∙ shared_cell (8 * i + j) ∙ cell_clear h (8 * i + j) inside

    pub valued_bytes : any_below n (BothSet v k) ≡ shares_bit v k
    valued_bytes =
        same_failures (any_below n (BothSet v k)) (shares_bit v k) cells_clear (λ h. any_below_none n (BothSet v k) (bytes_clear h))

-- ---- rows of whole bytes

whole_row : (n : ℕ) (row : List ℕ) → n % 8 ≡ 0 → spare_set n row ≡ false
unfolding spare_set any_below
whole_row n row h =
    let none : 8 * row_bytes n - n ≡ 0 = omega (arith, h) in
    ap (λ (k : ℕ). any_below k (λ i. eqb (cell row (n + i)) 1)) none

pub whole_rows : (n : ℕ) (rows : List ℕ) (count : ℕ) → n % 8 ≡ 0 → any_below count (SpareRow n rows) ≡ false
whole_rows n rows count h = any_below_none count (SpareRow n rows) (λ t l. whole_row n (list_row n rows t) h)
