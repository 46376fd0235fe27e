-- Parts of a list, as far as it goes. Assumes nothing.
use mathlib.Core.Path.{◌≡◌, sym, ap, ◌∙◌}
use mathlib.Core.Logic.{dite}
use mathlib.Core.List.{List}
use Prim.Native.Nat.{ℕ, ◌+◌, ◌-◌, ◌≤◌, min}
use native.Mathlib.Decide.{dec_le}
use native.Mathlib.Omega.{arith}
use lib.ListN.{length, take, drop, length-drop, drop_of_length-le}
use lib.Seq.{take_all}

pub drop_same : (l : List ℕ) (i j : ℕ) → min i (length l) ≡ min j (length l) → drop i l ≡ drop j l
drop_same l i j e =
    dite (dec_le (length l) i)
    (λ (h : length l ≤ i). drop_of_length-le l h ∙ sym (drop_of_length-le l {i = j} (omega arith)))
    (λ (h : length l ≤ i → ⊥). let same : i ≡ j = omega arith in ap (λ (k : ℕ). drop k l) same)

pub take_same : (l : List ℕ) (i j : ℕ) → min i (length l) ≡ min j (length l) → take i l ≡ take j l
take_same l i j e =
    dite (dec_le (length l) i)
    (λ (h : length l ≤ i). take_all i l h ∙ sym (take_all j l (omega arith)))
    (λ (h : length l ≤ i → ⊥). let same : i ≡ j = omega arith in ap (λ (k : ℕ). take k l) same)

pub part_clamped : (l : List ℕ) (at count start end : ℕ) → start ≡ min (at + 0) (length l) → end ≡ min (start + count) (length l)
    → take (end - start) (drop start l) ≡ take count (drop at l)
part_clamped l at count start end es ee =
    take_same (drop start l) (end - start) count (omega (arith, length-drop start l))
    ∙ ap (take count) (drop_same l start at (omega arith))

-- a limit on how many are taken, where the list is no longer
pub take_limit : (l : List ℕ) (n k : ℕ) → k ≡ min n (length l) → take k l ≡ take n l
take_limit l n k e = take_same l k n (omega arith)
