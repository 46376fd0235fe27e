-- Cells are 0 or 1, and rows lie one after the other. Assumes nothing.
use mathlib.Core.Path.{◌≡◌, ap₂}
use mathlib.Core.List.{List}
use Prim.Native.Nat.{ℕ, ◌+◌, ◌*◌, ◌/◌, ◌%◌, ◌^◌, ◌≤◌, ◌<◌}
use native.Mathlib.Nat.{mul-le-mul_left, mul-le-mul_right, mul-suc}
use native.Mathlib.Omega.{arith}
use lib.ListN.{length, get_or, length-take, length-drop, get_or-eq_default}
use lib.Pow.{shr_le}
use Rattle.word.specs.Word.{digit}
use Rattle.word.proofs.Laws.{mod2_lt}
use Rattle.rows.specs.Row.{row_bytes, cell}
use Rattle.rows.specs.Lists.{list_row}

pub cell_lt : (row : List ℕ) (c : ℕ) → cell row c < 2
cell_lt row c = mod2_lt (get_or row (c / 8) 0 / 2 ^ (c % 8))

-- one row more lies within the rows
pub row_step : (b t s : ℕ) → t < s → b * t + b ≤ b * s
row_step b t s h = rw mul-suc at (mul-le-mul_left b h)

pub list_row_length : (n : ℕ) (l : List ℕ) (s t : ℕ) → length l ≡ row_bytes n * s → t < s → length (list_row n l t) ≡ row_bytes n
unfolding list_row
list_row_length n l s t e h = simp (length-take, length-drop) (omega (arith, row_step (row_bytes n) t s h))

-- the place of a row, by numbers of 4 and 2 bytes
pub place_small : (stride t : ℕ) → stride < 4294967296 → t < 65536 → stride * t ≤ 281474976710656
place_small stride t hs ht =
    omega (arith, mul-le-mul_left stride (le_of_lt ht), mul-le-mul_right 65536 (le_of_lt hs))
  where
    le_of_lt : {a b : ℕ} → a < b → a ≤ b
    le_of_lt h = omega arith

-- ---- a row's bytes

pub cell_clear : (row : List ℕ) (c : ℕ) → get_or row (c / 8) 0 ≡ 0 → cell row c ≡ 0
cell_clear row c e = omega (arith, shr_le (get_or row (c / 8) 0) (c % 8))

-- past the row's end every cell is 0
pub cell_past : (row : List ℕ) (c : ℕ) → length row ≤ c / 8 → cell row c ≡ 0
cell_past row c h = cell_clear row c (get_or-eq_default row 0 h)

pub byte_cell : (row : List ℕ) (i k : ℕ) → k < 8 → cell row (8 * i + k) ≡ digit k (get_or row i 0)
byte_cell row i k h =
    let byte : (8 * i + k) / 8 ≡ i = omega arith in
    let bit : (8 * i + k) % 8 ≡ k = omega arith in
    ap₂ (λ (a b : ℕ). digit b (get_or row a 0)) byte bit
