-- The slices of a set: its rows lie one after the other, value row and mark row in turn; its ties lie behind them.
--
--   rows_of set          the rows of a set, from its first
--   value_row_of        slice t's value row is row 2 t of them
--   mark_row_of         .. and its mark row the one after that
--   slice_of            slice t is a part of two rows of them
--   slice_inside        a set of the right length holds each of its slices
--   value_row_length    .. and each row has its bytes
--   tie_bytes_length    .. and its entries theirs
--   value_rows_row      row t of the value rows, by their place and stride
-- Assumes nothing.
use mathlib.Core.Path.{◌≡◌, sym, ap, ap₂, ◌∙◌}
use mathlib.Core.List.{List, ◌++◌}
use Prim.Native.Nat.{ℕ, ◌+◌, ◌*◌, ◌≤◌, ◌<◌}
use native.Mathlib.Nat.{mul_assoc, mul_comm, mul-add, mul-one, mul-zero}
use native.Mathlib.Omega.{arith}
use lib.ListN.{length, get_or, take, drop, length-take, length-drop}
use lib.Seq.{drop-drop, take-add}
use Rattle.numbers.proofs.FileLaws.{part_small}
use Rattle.rows.specs.Row.{row_bytes}
use Rattle.rows.specs.Lists.{list_row, row_of}
use Rattle.rows.specs.declared.Rows.{Rows}
use Rattle.rows.proofs.CellLaws.{row_step}
use Rattle.ties.specs.Ties.{entry_bytes}
use Rattle.set_layout.specs.Layout.{rows_at, set_length, chains_of, slices_of, value_at, mark_at, value_row, mark_row, tie_count_of, tie_bytes}

abbrev pub rows_of : List ℕ → List ℕ
rows_of set = drop (rows_at (chains_of set)) set

module _ (set : List ℕ) where
  row_of_lem : (i t : ℕ) → i ≡ rows_at (chains_of set) + row_bytes (chains_of set) * t
      → take (row_bytes (chains_of set)) (drop i set) ≡ list_row (chains_of set) (rows_of set) t
  unfolding list_row
  row_of_lem i t e =
      ap (take (row_bytes (chains_of set)))
      (ap (λ (k : ℕ). drop k set) e ∙ sym (drop-drop (row_bytes (chains_of set) * t) (rows_at (chains_of set)) set))

  twice : (b t : ℕ) → 2 * b * t ≡ b * (2 * t)
  twice b t = ap (λ (x : ℕ). x * t) (mul_comm 2 b) ∙ mul_assoc b 2 t

  pub value_row_of : (t : ℕ) → value_row set t ≡ list_row (chains_of set) (rows_of set) (2 * t)
  unfolding value_row
  value_row_of t = row_of_lem (value_at (chains_of set) t) (2 * t) (omega (arith, twice (row_bytes (chains_of set)) t))

  pub mark_row_of : (t : ℕ) → mark_row set t ≡ list_row (chains_of set) (rows_of set) (2 * t + 1)
  unfolding mark_row
  mark_row_of t =
      row_of_lem (mark_at (chains_of set) t) (2 * t + 1)
      (omega (arith, twice (row_bytes (chains_of set)) t, mul-add (row_bytes (chains_of set)) (2 * t) 1, mul-one (row_bytes (chains_of set))))

  pub slice_of : (t : ℕ)
      → value_row set t ++ mark_row set t ≡ take (2 * row_bytes (chains_of set)) (drop (2 * row_bytes (chains_of set) * t) (rows_of set))
  unfolding value_row mark_row
  slice_of t =
      let b = row_bytes (chains_of set) in
      let slice = drop (value_at (chains_of set) t) set in
      let both : b + b ≡ 2 * b = omega arith in
      ap (λ (l : List ℕ). take b slice ++ take b l) (sym (drop-drop b (value_at (chains_of set) t) set))
      ∙ sym (take-add b b slice) ∙ ap₂ (λ (n : ℕ) (l : List ℕ). take n l) both (sym (drop-drop (2 * b * t) (rows_at (chains_of set)) set))

  pub mark_bytes : ((i : ℕ) → get_or set i 0 < 256) → (t i : ℕ) → get_or (mark_row set t) i 0 < 256
  unfolding mark_row
  mark_bytes small t i = part_small set small (mark_at (chains_of set) t) (row_bytes (chains_of set)) i

  -- ---- a set of the right length

  module _ (long : length set ≡ set_length (chains_of set) (slices_of set) (tie_count_of set)) where
    pub slice_inside : (t : ℕ) → t < slices_of set → mark_at (chains_of set) t + row_bytes (chains_of set) ≤ length set
    slice_inside t l = omega (arith, row_step (2 * row_bytes (chains_of set)) t (slices_of set) l)

    pub value_row_length : (t : ℕ) → t < slices_of set → length (value_row set t) ≡ row_bytes (chains_of set)
    unfolding value_row
    value_row_length t l = simp (length-take, length-drop) (omega (arith, slice_inside t l))

    pub mark_row_length : (t : ℕ) → t < slices_of set → length (mark_row set t) ≡ row_bytes (chains_of set)
    unfolding mark_row
    mark_row_length t l = simp (length-take, length-drop) (omega (arith, slice_inside t l))

    pub tie_bytes_length : length (tie_bytes set) ≡ entry_bytes * tie_count_of set
    unfolding tie_bytes
    tie_bytes_length = simp (length-take, length-drop) (omega (arith, long))

  -- ---- the rows by their place and stride: what `value_rows` and `mark_rows` promise of r

  module _ (n : ℕ) (r : Rows) (en : n ≡ chains_of set) where
    -- rows of which the first stands at place `at n 0` and each 2 B bytes after the one before
    row_placed : (at : ℕ → ℕ → ℕ) → ((t : ℕ) → at n 0 + 2 * row_bytes n * t ≡ at n t)
        → (r.at ≡ at n 0) × (r.stride ≡ 2 * row_bytes n) × (r.bytes ≡ row_bytes n)
        → (t : ℕ) → row_of set r t ≡ take (row_bytes (chains_of set)) (drop (at (chains_of set) t) set)
    row_placed at steps h t =
        ap₂ (λ (k i : ℕ). take k (drop i set)) h.2 (ap₂ (λ (x y : ℕ). x + y * t) h.0 h.1 ∙ steps t)
        ∙ ap (λ (c : ℕ). take (row_bytes c) (drop (at c t) set)) en

    pub value_rows_row : (r.at ≡ value_at n 0) × (r.stride ≡ 2 * row_bytes n) × (r.bytes ≡ row_bytes n) → (t : ℕ) → row_of set r t ≡ value_row set t
    unfolding value_row
    value_rows_row = row_placed value_at (λ t. omega (arith, mul-zero (2 * row_bytes n)))

    pub mark_rows_row : (r.at ≡ mark_at n 0) × (r.stride ≡ 2 * row_bytes n) × (r.bytes ≡ row_bytes n) → (t : ℕ) → row_of set r t ≡ mark_row set t
    unfolding mark_row
    mark_rows_row = row_placed mark_at (λ t. omega (arith, mul-zero (2 * row_bytes n)))
