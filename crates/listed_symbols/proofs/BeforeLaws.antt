-- The marked cells before a cell: those of the rows before its own, and those before it in its own.
--
--   total_sum         a sum over a range
--   cells_le          there are no more marked cells than cells
--   rows_le, rows_few .. in rows of 256 cells
--   cells_lt          the cells of rows are 0 or 1
--   rows_behind       rows counted on from row `at`: those of the list without what stands before that row
--   place_of          the place of a cell among the marked ones
-- Assumes nothing.
use mathlib.Core.Path.{◌≡◌, refl, sym, ap, ap₂, ◌∙◌}
use mathlib.Core.List.{List, map}
use Prim.Native.Nat.{ℕ, zero, suc, ◌+◌, ◌-◌, ◌*◌, ◌≤◌, ◌<◌}
use native.Mathlib.Nat.{mul-one, mul-add}
use native.Mathlib.Numerals.{add-one}
use native.Mathlib.Omega.{arith}
use lib.ListN.{length, take, drop, length-drop}
use lib.Seq.{take_all, drop-drop}
use Rattle.std.specs.List.{sum, range_with_len}
use Rattle.std.proofs.lemmas.List.FromFn.{sum_by-map-range_with_len_more}
use Rattle.rows.specs.Row.{cell}
use Rattle.rows.specs.Lists.{row_of, cells_of}
use Rattle.rows.specs.Marks.{total}
use Rattle.rows.specs.declared.Rows.{Rows}
use Rattle.rows.proofs.CellLaws.{cell_lt}
use Rattle.rows.proofs.MarkLaws.{total_ext, total_le, total_add}

pub total_sum : (f : ℕ → ℕ) (n : ℕ) → sum (map f (range_with_len 0 n)) ≡ total n f
unfolding total
total_sum f zero = refl
total_sum f (suc n) =
    ap (λ (k : ℕ). sum (map f (range_with_len 0 k))) (sym (add-one n))
    ∙ sum_by-map-range_with_len_more (λ (x : ℕ). x) f 0 n n (omega arith) ∙ ap (λ (x : ℕ). x + f n) (total_sum f n)

pub cells_le : (row : List ℕ) (c found : ℕ) → found ≡ total c (cell row) → found ≤ c
cells_le row c found e = omega (arith, e, total_le c 1 (cell row) (λ d. omega (arith, cell_lt row d)), mul-one c)

module _ (l : List ℕ) (r : Rows) where
  pub cells_lt : (t c : ℕ) → cells_of l r t c < 2
  cells_lt t c = cell_lt (row_of l r t) c

  pub rows_le : (t found : ℕ) → found ≡ total t (λ v. total 256 (cells_of l r v)) → found ≤ t * 256
  rows_le t found e =
      omega (arith, e, total_le t 256 (λ v. total 256 (cells_of l r v)) (λ v. cells_le (row_of l r v) 256 (total 256 (cells_of l r v)) refl))

  pub rows_few : (t found : ℕ) → t < 65536 → found ≡ total t (λ v. total 256 (cells_of l r v)) → found ≤ 16777216
  rows_few t found h e = omega (arith, rows_le t found e)

  row_behind : (at v : ℕ) → row_of (take (length l) (drop (r.stride * at) l)) r v ≡ row_of l r (at + v)
  row_behind at v =
      let all : take (length l) (drop (r.stride * at) l) ≡ drop (r.stride * at) l = take_all (length l) (drop (r.stride * at) l) (omega (arith, length-drop (r.stride * at) l)) in
      let place : r.stride * at + (r.at + r.stride * v) ≡ r.at + r.stride * (at + v) = omega (arith, mul-add r.stride at v) in
      ap (λ (x : List ℕ). take r.bytes (drop (r.at + r.stride * v) x)) all
      ∙ ap (take r.bytes) (drop-drop (r.at + r.stride * v) (r.stride * at) l ∙ ap (λ (i : ℕ). drop i l) place)

  pub rows_behind : (at t before more : ℕ) (rest : List ℕ) → at ≤ t → before ≡ total at (λ v. total 256 (cells_of l r v))
      → rest ≡ take (length l) (drop (r.stride * at) l) → more ≡ total (t - at) (λ v. total 256 (cells_of rest r v))
      → before + more ≡ total t (λ v. total 256 (cells_of l r v))
  rows_behind at t before more rest h eb er em =
      let whole : at + (t - at) ≡ t = omega arith in
      ap₂ ◌+◌ eb
      (em
      ∙ total_ext (t - at) (λ v. total 256 (cells_of rest r v)) (λ v. total 256 (cells_of l r (at + v)))
      (λ v q. ap (λ (x : List ℕ). total 256 (cell x)) (ap (λ (x : List ℕ). row_of x r v) er ∙ row_behind at v)))
      ∙ sym (total_add at (t - at) (λ v. total 256 (cells_of l r v))) ∙ ap (λ (k : ℕ). total k (λ v. total 256 (cells_of l r v))) whole

-- the place of a cell: the marked cells of the rows before its own, and those before it
pub place_of : (row : List ℕ) (before c c' found : ℕ) → c ≡ c' → found ≡ total c (cell row) → before + found ≡ before + total c' (cell row)
place_of row before c c' found ec ef = ap (λ (x : ℕ). before + x) (ef ∙ ap (λ (x : ℕ). total x (cell row)) ec)
