-- The tests 8 to 10 of a set: what its length says, and 9 and 10 over its rows as they lie one after the other and byte by byte.
-- Assumes nothing.
use mathlib.Core.Path.{◌≡◌, sym, ap₂, ◌∙◌}
use mathlib.Core.Bool.{false, not, ◌||◌}
use mathlib.Core.List.{List}
use Prim.Native.Nat.{ℕ, ◌+◌, ◌*◌, ◌≤◌, ◌<◌}
use borrow.Author.Tests.{ltb-false, eqb-true, not-false}
use lib.Dec.{eqb, ltb}
use lib.ListN.{length, get_or}
use Rattle.word.specs.Some.{any_below}
use Rattle.word.proofs.SomeLaws.{any_below_ext}
use Rattle.word.proofs.BoolLaws.{or_false_left, or_false_right}
use Rattle.word.proofs.RangeLaws.{any_below_or, any_below_pairs}
use Rattle.rows.specs.Row.{spare_set}
use Rattle.rows.specs.Lists.{shares_bit, spare_in}
use Rattle.rows.proofs.RowLaws.{SpareRow}
use Rattle.rows.proofs.ListLaws.{spare_in_row, valued_rows}
use Rattle.ties.specs.Ties.{most_ties}
use Rattle.set_layout.specs.Layout.{set_length, chains_of, slices_of, value_row, mark_row, tie_count_of}
use Rattle.set_layout.proofs.SliceLaws.{rows_of, value_row_of, mark_row_of, value_row_length, mark_row_length, mark_bytes}
use Rattle.set_file.specs.Reading.{wrong_length, spare_in_rows, valued_in_rows}

module _ (set : List ℕ) where
  pub length_fits : wrong_length set ≡ false → length set ≡ set_length (chains_of set) (slices_of set) (tie_count_of set)
  length_fits h = eqb-true (length set) _ (not-false _ (or_false_right (ltb most_ties (tie_count_of set)) _ h))

  pub ties_few : wrong_length set ≡ false → tie_count_of set ≤ most_ties
  ties_few h =
      ltb-false most_ties (tie_count_of set)
      (or_false_left (ltb most_ties (tie_count_of set)) (not (eqb (length set) (set_length (chains_of set) (slices_of set) (tie_count_of set)))) h)

  pub spare_of_rows : spare_in_rows set ≡ any_below (2 * slices_of set) (SpareRow (chains_of set) (rows_of set))
  spare_of_rows =
      sym (any_below_or (slices_of set) (λ t. spare_set (chains_of set) (value_row set t)) (λ t. spare_set (chains_of set) (mark_row set t)))
      ∙ any_below_ext (slices_of set) _ (λ t. SpareRow (chains_of set) (rows_of set) (2 * t) || SpareRow (chains_of set) (rows_of set) (2 * t + 1))
      (λ t l. ap₂ (λ (v k : List ℕ). spare_set (chains_of set) v || spare_set (chains_of set) k) (value_row_of set t) (mark_row_of set t))
      ∙ sym (any_below_pairs (slices_of set) (SpareRow (chains_of set) (rows_of set)))

  module _ (clean : spare_in_rows set ≡ false) where
    marks_clean : spare_in (chains_of set) (mark_row set) (slices_of set) ≡ false
    marks_clean = or_false_right (spare_in (chains_of set) (value_row set) (slices_of set)) _ clean

    pub value_row_clean : (t : ℕ) → t < slices_of set → spare_set (chains_of set) (value_row set t) ≡ false
    value_row_clean =
        spare_in_row (chains_of set) (slices_of set) (value_row set)
        (or_false_left (spare_in (chains_of set) (value_row set) (slices_of set)) (spare_in (chains_of set) (mark_row set) (slices_of set)) clean)

    pub mark_row_clean : (t : ℕ) → t < slices_of set → spare_set (chains_of set) (mark_row set t) ≡ false
    mark_row_clean = spare_in_row (chains_of set) (slices_of set) (mark_row set) marks_clean

    -- number 10 byte by byte
    pub valued_of_bytes : length set ≡ set_length (chains_of set) (slices_of set) (tie_count_of set) → ((i : ℕ) → get_or set i 0 < 256)
        → any_below (slices_of set) (λ t. shares_bit (value_row set t) (mark_row set t)) ≡ valued_in_rows set
    valued_of_bytes long small =
        valued_rows (chains_of set) (slices_of set) (value_row set) (mark_row set) (value_row_length set long) (mark_row_length set long) marks_clean
        (mark_bytes set small)
