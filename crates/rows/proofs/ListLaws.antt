-- Lists of rows: the tests of their rows, one by one and over the whole list.
--
--   spare_in_ext      rows that are alike have their spare bits alike
--   spare_in_row      where no row has a spare bit set, row t has none
--   valued_ext        slices that are alike have their unknown cells valued alike
--   valued_rows       where no mark row has a spare bit set, the bytes of the rows tell what the cells do
--   valued_lists      .. and so do the bytes of two lists of rows
-- Assumes nothing.
use mathlib.Core.Path.{◌≡◌, sym, ap, ap₂, ◌∙◌}
use mathlib.Core.Bool.{Bool, false, not, ◌&&◌}
use mathlib.Core.List.{List}
use Prim.Native.Nat.{ℕ, ◌+◌, ◌*◌, ◌<◌, min}
use native.Mathlib.Omega.{arith}
use lib.Bits.{bit_and}
use lib.Dec.{eqb}
use lib.ListN.{length, get_or, drop}
use lib.Seq.{get_or-take, get_or-drop}
use Rattle.word.specs.Some.{any_below}
use Rattle.word.proofs.SomeLaws.{any_below_ext, any_below_false}
use Rattle.word.proofs.RangeLaws.{any_below_blocks}
use Rattle.numbers.proofs.FileLaws.{part_small}
use Rattle.rows.specs.Row.{row_bytes, cell, spare_set}
use Rattle.rows.specs.Lists.{list_row, shares_bit, spare_in, valued_unknown}
use Rattle.rows.proofs.CellLaws.{list_row_length}
use Rattle.rows.proofs.RowLaws.{valued_bytes}

pub spare_in_ext : (n s : ℕ) (f g : ℕ → List ℕ) → ((t : ℕ) → t < s → f t ≡ g t) → spare_in n f s ≡ spare_in n g s
spare_in_ext n s f g h = any_below_ext s (λ t. spare_set n (f t)) (λ t. spare_set n (g t)) (λ t l. ap (spare_set n) (h t l))

pub spare_in_row : (n s : ℕ) (f : ℕ → List ℕ) → spare_in n f s ≡ false → (t : ℕ) → t < s → spare_set n (f t) ≡ false
spare_in_row n s f h t l = any_below_false s (λ t. spare_set n (f t)) h t l

-- slice t has an unknown cell with its value bit set
abbrev ValuedAt : ℕ → (ℕ → List ℕ) → (ℕ → List ℕ) → ℕ → Bool
ValuedAt n v k t = any_below n (λ c. eqb (cell (v t) c) 1 && eqb (cell (k t) c) 1)

pub valued_ext : (n s : ℕ) (v w k l : ℕ → List ℕ) → ((t : ℕ) → t < s → v t ≡ w t) → ((t : ℕ) → t < s → k t ≡ l t)
    → valued_unknown n v k s ≡ valued_unknown n w l s
valued_ext n s v w k l hv hk =
    any_below_ext s (ValuedAt n v k) (ValuedAt n w l)
    (λ t h. ap₂ (λ (a b : List ℕ). any_below n (λ c. eqb (cell a c) 1 && eqb (cell b c) 1)) (hv t h) (hk t h))

pub valued_rows : (n s : ℕ) (v k : ℕ → List ℕ) → ((t : ℕ) → t < s → length (v t) ≡ row_bytes n) → ((t : ℕ) → t < s → length (k t) ≡ row_bytes n)
    → spare_in n k s ≡ false → ((t i : ℕ) → get_or (k t) i 0 < 256) → any_below s (λ t. shares_bit (v t) (k t)) ≡ valued_unknown n v k s
valued_rows n s v k lv lk clean small =
    any_below_ext s (λ t. shares_bit (v t) (k t)) (ValuedAt n v k)
    (λ t l. sym (valued_bytes n (v t) (k t) (lv t l) (lk t l) (spare_in_row n s k clean t l) (small t)))

-- ---- two lists of rows

-- at place i the two lists have a bit in common
abbrev SharesAt : List ℕ → List ℕ → ℕ → Bool
SharesAt v k i = not (eqb (bit_and (get_or v i 0) (get_or k i 0)) 0)

row_get : (n : ℕ) (l : List ℕ) (t j : ℕ) → j < row_bytes n → get_or (list_row n l t) j 0 ≡ get_or l (row_bytes n * t + j) 0
unfolding list_row
row_get n l t j h = get_or-take (row_bytes n) (drop (row_bytes n * t) l) j 0 h ∙ get_or-drop (row_bytes n * t) l j 0

list_row_small : (n : ℕ) (l : List ℕ) → ((i : ℕ) → get_or l i 0 < 256) → (t i : ℕ) → get_or (list_row n l t) i 0 < 256
unfolding list_row
list_row_small n l small t i = part_small l small (row_bytes n * t) (row_bytes n) i

module _ (n s : ℕ) (v k : List ℕ) (lv : length v ≡ row_bytes n * s) (lk : length k ≡ row_bytes n * s) where
  -- a row's bytes are bytes of the list
  row_shares : (t : ℕ) → t < s → any_below (row_bytes n) (λ j. SharesAt v k (row_bytes n * t + j)) ≡ shares_bit (list_row n v t) (list_row n k t)
  unfolding shares_bit
  row_shares t h =
      let count : row_bytes n ≡ min (length (list_row n v t)) (length (list_row n k t)) =
      omega (arith, list_row_length n v s t lv h, list_row_length n k s t lk h)
      in
      any_below_ext (row_bytes n) (λ j. SharesAt v k (row_bytes n * t + j)) (SharesAt (list_row n v t) (list_row n k t))
      (λ j l. ap₂ (λ (a b : ℕ). not (eqb (bit_and a b) 0)) (sym (row_get n v t j l)) (sym (row_get n k t j l)))
      ∙ ap (λ (x : ℕ). any_below x (SharesAt (list_row n v t) (list_row n k t))) count

  rows_share : shares_bit v k ≡ any_below s (λ t. shares_bit (list_row n v t) (list_row n k t))
  unfolding shares_bit
  rows_share =
      let count : min (length v) (length k) ≡ row_bytes n * s = omega (arith, lv, lk) in
      ap (λ (x : ℕ). any_below x (SharesAt v k)) count
      ∙ any_below_blocks (row_bytes n) s (SharesAt v k)
      ∙ any_below_ext s (λ t. any_below (row_bytes n) (λ j. SharesAt v k (row_bytes n * t + j))) (λ t. shares_bit (list_row n v t) (list_row n k t)) row_shares

  pub valued_lists : spare_in n (list_row n k) s ≡ false → ((i : ℕ) → get_or k i 0 < 256)
      → shares_bit v k ≡ valued_unknown n (list_row n v) (list_row n k) s
  valued_lists clean small =
      rows_share
      ∙ valued_rows n s (list_row n v) (list_row n k) (λ t l. list_row_length n v s t lv l) (λ t l. list_row_length n k s t lk l) clean
      (list_row_small n k small)
