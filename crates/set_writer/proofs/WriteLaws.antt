-- What has been written and what is left, in the loops of the writer's inner functions. Assumes nothing.
use mathlib.Core.Path.{◌≡◌, refl, sym, ap, ap₂, ◌∙◌}
use mathlib.Core.Bool.{true, false, ◌||◌}
use mathlib.Core.List.{List, ◌++◌}
use Prim.Native.Nat.{ℕ, ◌+◌, ◌-◌, ◌*◌, ◌≤◌, ◌<◌}
use native.Mathlib.Nat.{mul_assoc}
use native.Mathlib.Numerals.{add-one}
use native.Mathlib.Omega.{arith}
use borrow.Author.Tests.{ltb-false, le-ltb}
use lib.Dec.{ltb}
use lib.ListN.{length, take, drop, length-append, length-take, length-drop}
use lib.Seq.{sets, length-sets}
use Rattle.numbers.proofs.FileLaws.{sets_parts}
use Rattle.numbers.specs.Joined.{joined}
use Rattle.numbers.proofs.JoinLaws.{joined_length}
use Rattle.set_writer.specs.Writing.{slice_bytes}
use Rattle.word.proofs.BoolLaws.{or_false, or_false_left, or_false_right}
use Rattle.rows.specs.Row.{row_bytes}
use Rattle.rows.specs.Lists.{list_row}
use Rattle.rows.proofs.CellLaws.{row_step}
use Rattle.set_layout.specs.Layout.{rows_at, tie_count_at}

-- ---- slices one after the other

row_length : (n : ℕ) (l : List ℕ) (t : ℕ) → row_bytes n * t + row_bytes n ≤ length l → length (list_row n l t) ≡ row_bytes n
unfolding list_row
row_length n l t h = simp (length-take, length-drop) (omega arith)

pub slice_length : (n : ℕ) (v k : List ℕ) (t : ℕ) → row_bytes n * t + row_bytes n ≤ length v → row_bytes n * t + row_bytes n ≤ length k
    → length (slice_bytes n v k t) ≡ 2 * row_bytes n
unfolding slice_bytes
slice_length n v k t hv hk =
    length-append (list_row n v t) (list_row n k t) ∙ omega (arith, row_length n v t hv, row_length n k t hk)

pub slices_length : (n : ℕ) (v k : List ℕ) (t : ℕ) → row_bytes n * t ≤ length v → row_bytes n * t ≤ length k
    → length (joined (slice_bytes n v k) t) ≡ 2 * row_bytes n * t
slices_length n v k t hv hk =
    joined_length (2 * row_bytes n) (slice_bytes n v k) t
    (λ i l. slice_length n v k i (omega (arith, row_step (row_bytes n) i t l)) (omega (arith, row_step (row_bytes n) i t l)))

-- a row of the list as it is lent, by its first place and its end, and one of 32 bytes by its first place
pub row_lent : (n b : ℕ) (l : List ℕ) (t : ℕ) → b ≡ row_bytes n → take (b * t + b - b * t) (drop (b * t) l) ≡ list_row n l t
unfolding list_row
row_lent n b l t eb =
    let count : b * t + b - b * t ≡ row_bytes n = omega arith in
    ap₂ (λ (c i : ℕ). take c (drop i l)) count (ap (λ (x : ℕ). x * t) eb)

row_32 : (n : ℕ) (l : List ℕ) (t : ℕ) → row_bytes n ≡ 32 → take 32 (drop (32 * t) l) ≡ list_row n l t
unfolding list_row
row_32 n l t e = ap (λ (b : ℕ). take b (drop (b * t) l)) (sym e)

-- the first t slices of the lists v and k stand in l from place `at` on; their next rows, x and y, are written behind them
pub slice_written : (n b : ℕ) (v k l₀ l l₁ l₂ : List ℕ) (at t : ℕ) (x y : List ℕ) → b ≡ row_bytes n → b * t + b ≤ length v → b * t + b ≤ length k
    → x ≡ list_row n v t → y ≡ list_row n k t → l ≡ sets l₀ at (joined (slice_bytes n v k) t) → l₁ ≡ sets l (at + 2 * (b * t)) x
    → l₂ ≡ sets l₁ (at + 2 * (b * t) + b) y → l₂ ≡ sets l₀ at (joined (slice_bytes n v k) (t + 1))
unfolding joined slice_bytes
slice_written n b v k l₀ l l₁ l₂ at t x y eb hv hk ex ey done e₁ e₂ =
    let before = joined (slice_bytes n v k) t in
    let to = at + 2 * (b * t) in
    let source : b * t ≡ row_bytes n * t = ap (λ (i : ℕ). i * t) eb in
    let seam : at + length before ≡ to =
    omega (arith, slices_length n v k t (omega (arith, source, hv)) (omega (arith, source, hk)), source, mul_assoc 2 (row_bytes n) t)
    in
    let full : length (list_row n v t) ≡ b = row_length n v t (omega (arith, source, eb, hv)) ∙ sym eb in
    e₂
    ∙ ap₂ (λ (l y : List ℕ). sets l (to + b) y) (e₁ ∙ ap₂ (λ (l x : List ℕ). sets l to x) done ex) ey
    ∙ sym (sets_parts (list_row n v t) (list_row n k t) (sets l₀ at before) to (to + b) (ap (λ (i : ℕ). to + i) full))
    ∙ sym (sets_parts before (list_row n v t ++ list_row n k t) l₀ at to seam)
    ∙ ap (λ (i : ℕ). sets l₀ at (joined (slice_bytes n v k) i)) (sym (add-one t))

pub slices_start : (n : ℕ) (v k l : List ℕ) (at : ℕ) → l ≡ sets l at (joined (slice_bytes n v k) 0)
unfolding joined
slices_start n v k l at = refl

-- the first s slices are all, from where the rows begin
pub slices_all : (n : ℕ) (v k l₀ l : List ℕ) (at t s : ℕ) → l ≡ sets l₀ at (joined (slice_bytes n v k) t) → t ≡ s → at ≡ rows_at n
    → l ≡ sets l₀ (rows_at n) (joined (slice_bytes n v k) s)
slices_all n v k l₀ l at t s done e ea = done ∙ ap₂ (λ (i j : ℕ). sets l₀ i (joined (slice_bytes n v k) j)) ea e

-- a list of s rows holds row t
pub row_inside : (n b s t i : ℕ) → b ≡ row_bytes n → row_bytes n * s ≤ i → t < s → b * t + b ≤ i
row_inside n b s t i eb room h = omega (arith, ap (λ (x : ℕ). x * s) eb, row_step b t s h)

pub both_inside : (a b e : ℕ) → (ltb a e || ltb b e) ≡ false → (e ≤ a) × (e ≤ b)
both_inside a b e h = (ltb-false a e (or_false_left (ltb a e) (ltb b e) h), ltb-false b e (or_false_right (ltb a e) (ltb b e) h))

-- lists of s rows are not shorter than that
pub not_short : (v k : List ℕ) (n s all : ℕ) → all ≡ row_bytes n * s → length v ≡ row_bytes n * s → length k ≡ row_bytes n * s
    → (ltb (length v) all || ltb (length k) all) ≡ true → ⊥
not_short v k n s all e ev ek on =
    let off : (ltb (length v) all || ltb (length k) all) ≡ false =
    or_false (ltb (length v) all) (ltb (length k) all) (le-ltb (length v) all (omega arith)) (le-ltb (length k) all (omega arith))
    in
    let z : ◌≡◌ {A = ℕ} 0 1 = cc in
    omega arith

-- ---- rows of 32 bytes

-- both lists hold s rows, and there is room for all of them from place `at` on
pub wide_room : (n s : ℕ) (v k l₀ l : List ℕ) (at t : ℕ) → (row_bytes n ≡ 32) × (32 * s ≤ length v) × (32 * s ≤ length k) × (rows_at n + 64 * s ≤ length l₀)
    → at ≡ rows_at n → l ≡ sets l₀ at (joined (slice_bytes n v k) t) → t < s
    → (at + 2 * (32 * t) + 64 ≤ length l) × (32 * t + 32 ≤ length v) × (32 * t + 32 ≤ length k)
wide_room n s v k l₀ l at t h ea done i =
    let long : length l ≡ length l₀ = ap length done ∙ length-sets l₀ at (joined (slice_bytes n v k) t) in
    (omega (arith, h.3), omega (arith, h.1), omega (arith, h.2))

pub wide_written : (n : ℕ) (v k l₀ l l₁ l₂ : List ℕ) (at t : ℕ) → row_bytes n ≡ 32 → 32 * t + 32 ≤ length v → 32 * t + 32 ≤ length k
    → l ≡ sets l₀ at (joined (slice_bytes n v k) t) → l₁ ≡ sets l (at + 2 * (32 * t)) (take 32 (drop (32 * t) v))
    → l₂ ≡ sets l₁ (at + 2 * (32 * t) + 32) (take 32 (drop (32 * t) k)) → l₂ ≡ sets l₀ at (joined (slice_bytes n v k) (t + 1))
wide_written n v k l₀ l l₁ l₂ at t wide hv hk =
    slice_written n 32 v k l₀ l l₁ l₂ at t _ _ (sym wide) hv hk (row_32 n v t wide) (row_32 n k t wide)

-- what the loop over rows of 32 bytes asks for, by the tests before it
pub wide_known : (n s : ℕ) (v k l : List ℕ) (all b end : ℕ) → all ≡ row_bytes n * s → (ltb (length v) all || ltb (length k) all) ≡ false
    → b ≡ row_bytes n → b ≡ 32 → end ≡ tie_count_at n s → end ≤ length l
    → (row_bytes n ≡ 32) × (32 * s ≤ length v) × (32 * s ≤ length k) × (rows_at n + 64 * s ≤ length l)
wide_known n s v k l all b end ea h eb e32 ee room =
    let wide : row_bytes n ≡ 32 = sym eb ∙ e32 in
    let rows : all ≡ 32 * s = ea ∙ ap (λ (x : ℕ). x * s) wide in
    let place : end ≡ rows_at n + 64 * s = ee ∙ ap (λ (x : ℕ). rows_at n + 2 * x * s) wide in
    let there = both_inside (length v) (length k) all h in
    (wide, omega (arith, there.0), omega (arith, there.1), omega arith)
