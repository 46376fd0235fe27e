-- A row's spare bits are the high bits of one byte, so that one test answers for all of them. Assumes nothing.
use mathlib.Core.Path.{◌≡◌, refl, sym, ap, ap₂, ◌∙◌}
use mathlib.Core.Bool.{true, false, not, ◌&&◌, ◌||◌}
use mathlib.Core.Logic.{⊎_elim, dite}
use mathlib.Core.List.{List}
use Prim.Native.Nat.{ℕ, zero, suc, ◌+◌, ◌-◌, ◌*◌, ◌/◌, ◌%◌, ◌^◌, ◌<◌}
use native.Mathlib.Decide.{ℕ_discrete}
use native.Mathlib.Omega.{arith}
use borrow.Author.Tests.{ne_eqb}
use lib.Dec.{eqb}
use lib.ListN.{get_or}
use lib.Pow.{shr_le, shr_lt, shr-shr}
use Rattle.word.specs.Word.{digit}
use Rattle.word.specs.Some.{any_below}
use Rattle.word.proofs.Laws.{bit_cases, mod2_lt}
use Rattle.word.proofs.SomeLaws.{any_below_ext}
use Rattle.word.proofs.BoolLaws.{or_true_right, or_none}
use Rattle.rows.specs.Row.{row_bytes, cell, spare_set}
use Rattle.word.proofs.WordLaws.{below_top}

-- a word with a bit set is not 0
not_clear : (i w : ℕ) → w ≡ 0 → digit i w ≡ 1 → ⊥
not_clear i w z d = omega (arith, shr_le w i)

-- a word below 2 ^ i has a bit set below i exactly where it is not 0
any_digit : (i w : ℕ) → w < 2 ^ i → any_below i (λ k. eqb (digit k w) 1) ≡ not (eqb w 0)
unfolding any_below
any_digit zero zero h = refl
any_digit zero (suc w) h = let z : ⊥ = omega arith in absurd z
any_digit (suc i) w h =
    ⊎_elim (λ (d : digit i w ≡ 0). rw d (clear (any_digit i w (below_top i w h d)))) (λ (d : digit i w ≡ 1). rw d (set d))
    (bit_cases (digit i w) (mod2_lt (w / 2 ^ i)))
  where
    clear : any_below i (λ k. eqb (digit k w) 1) ≡ not (eqb w 0) → (any_below i (λ k. eqb (digit k w) 1) || false) ≡ not (eqb w 0)
    clear ih = or_none (any_below i (λ k. eqb (digit k w) 1)) ∙ ih

    set : digit i w ≡ 1 → (any_below i (λ k. eqb (digit k w) 1) || true) ≡ not (eqb w 0)
    set d = or_true_right (any_below i (λ k. eqb (digit k w) 1)) true refl ∙ sym (ap not (ne_eqb w 0 (λ (z : w ≡ 0). not_clear i w z d)))

-- the spare bits begin in the middle of byte n ÷ 8: chain n + k is bit k of what stands there from bit n mod 8 on
spare_cell : (n : ℕ) (row : List ℕ) (k : ℕ) → k < 8 - n % 8 → cell row (n + k) ≡ digit k (get_or row (n / 8) 0 / 2 ^ (n % 8))
spare_cell n row k h =
    let byte : (n + k) / 8 ≡ n / 8 = omega arith in
    let bit : (n + k) % 8 ≡ n % 8 + k = omega arith in
    ap₂ (λ (i j : ℕ). digit j (get_or row i 0)) byte bit ∙ ap (λ (x : ℕ). x % 2) (sym (shr-shr (get_or row (n / 8) 0) (n % 8) k))

pub spare_set_byte : (n : ℕ) (row : List ℕ) → get_or row (n / 8) 0 < 256
    → spare_set n row ≡ (not (eqb (n % 8) 0) && not (eqb (get_or row (n / 8) 0 / 2 ^ (n % 8)) 0))
unfolding spare_set any_below
spare_set_byte n row h = dite (ℕ_discrete (n % 8) 0) whole part
  where
    whole : n % 8 ≡ 0 → any_below (8 * row_bytes n - n) (λ k. eqb (cell row (n + k)) 1) ≡ (not (eqb (n % 8) 0) && not (eqb (get_or row (n / 8) 0 / 2 ^ (n % 8)) 0))
    whole e = let none : 8 * row_bytes n - n ≡ 0 = omega arith in rw (none, e)

    part : (n % 8 ≡ 0 → ⊥) → any_below (8 * row_bytes n - n) (λ k. eqb (cell row (n + k)) 1) ≡ (not (eqb (n % 8) 0) && not (eqb (get_or row (n / 8) 0 / 2 ^ (n % 8)) 0))
    part e =
        let count : 8 * row_bytes n - n ≡ 8 - n % 8 = omega arith in
        let full : 8 - n % 8 + n % 8 ≡ 8 = omega arith in
        let test : eqb (n % 8) 0 ≡ false = ne_eqb (n % 8) 0 e in
        rw (count, test)
        (any_below_ext (8 - n % 8) (λ k. eqb (cell row (n + k)) 1) (λ k. eqb (digit k (get_or row (n / 8) 0 / 2 ^ (n % 8))) 1)
        (λ k l. ap (λ (d : ℕ). eqb d 1) (spare_cell n row k l))
        ∙ any_digit (8 - n % 8) (get_or row (n / 8) 0 / 2 ^ (n % 8)) (shr_lt (8 - n % 8) (n % 8) (rw full h)))
