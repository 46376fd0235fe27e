-- What the inner functions' answers come to, from what the functions that they call ensure. Assumes nothing.
use mathlib.Core.Path.{◌≡◌, sym, ap, ap₂, ◌∙◌}
use mathlib.Core.Bool.{Bool, true, false, not, ◌||◌}
use mathlib.Core.List.{List}
use Prim.Native.Nat.{ℕ, ◌+◌, ◌-◌, ◌*◌, ◌≤◌, ◌<◌}
use native.Mathlib.Nat.{mul-add, mul-one, mul-zero}
use native.Mathlib.Omega.{arith}
use lib.Bits.{bit_or}
use lib.Dec.{eqb, ltb}
use lib.ListN.{length, get_or, take, drop, length-drop}
use lib.Seq.{take_all}
use Rattle.word.specs.Some.{any_below}
use Rattle.word.specs.Reply.{first_of}
use Rattle.rows.specs.Row.{cell, row_bytes}
use Rattle.rows.specs.declared.Rows.{Rows}
use Rattle.ties.specs.Ties.{most_ties, ties_in, tie_tests}
use Rattle.ties.proofs.EntryLaws.{tie_tests_none, tie_tests_marks}
use Rattle.chains.specs.Driven.{bad_spread}
use Rattle.chains.proofs.Laws.{folded_starts, folded_turns, folded_ends}
use Rattle.set_layout.specs.Layout.{spread_at, rows_at, set_length, width_of, chains_of, spread_of, slices_of, value_at, mark_at, value_row, mark_row, marks, tie_count_of, tie_bytes, ties_of}
use Rattle.set_file.specs.Reading.{wrong_length, spare_in_rows, valued_in_rows}
use Rattle.rows.specs.Lists.{cells_of, shares_bit}
use Rattle.word.proofs.RangeLaws.{none_passed, one_passed, one_found, all_passed}
use Rattle.word.proofs.SomeLaws.{any_below_ext}
use Rattle.rows.proofs.PairLaws.{PairMeets}
use Rattle.rows.proofs.RowLaws.{SpareRow, spare_rows_none}
use Rattle.set_layout.proofs.SliceLaws.{rows_of, slice_inside, mark_rows_row}
use Rattle.set_file.proofs.RowTests.{length_fits, spare_of_rows, valued_of_bytes}
use Rattle.word.specs.Word.{beyond}
use Rattle.numbers.specs.Bytes.{word_at, words_at}
use Rattle.numbers.proofs.FileLaws.{word_at_place}
use Rattle.numbers.proofs.ByteLaws.{length_words_at}

-- ---- number 6: one of the spread words before c is 0 (`none`) or has a bit at or above m, as their OR (`seen`) then has, or those from c
-- on decide

abbrev pub Folded : List ℕ → ℕ → ℕ → ℕ → Bool → ℕ → Type 0
Folded set m n seen none c =
    (c ≤ n) × (((none || beyond m seen) || bad_spread m (drop c (words_at set spread_at n))) ≡ bad_spread m (words_at set spread_at n))

pub folded_start : (set : List ℕ) (m n : ℕ) → Folded set m n 0 false 0
folded_start set m n = (omega arith, folded_starts m (words_at set spread_at n))

pub folded_turn : (set : List ℕ) (m n seen : ℕ) (none : Bool) (c w : ℕ) → Folded set m n seen none c → c < n → w ≡ word_at set (spread_at + 8 * c)
    → Folded set m n (bit_or seen w) (none || eqb w 0) (c + 1)
folded_turn set m n seen none c w i l e =
    let word : get_or (words_at set spread_at n) c 0 ≡ w = word_at_place set spread_at n c l ∙ sym e in (
      omega (arith, l),
      ap
          (λ (x : ℕ). ((none || eqb x 0) || beyond m (bit_or seen x)) || bad_spread m (drop (c + 1) (words_at set spread_at n)))
          (sym word)
          ∙ folded_turns m (words_at set spread_at n) none seen c (omega (arith, l, length_words_at set spread_at n)) i.1,
    )

pub folded_end : (set : List ℕ) (m n seen : ℕ) (none : Bool) (c : ℕ) (r : Bool) → m ≡ width_of set → n ≡ chains_of set → Folded set m n seen none c → n ≤ c
    → r ≡ beyond m seen → (none || r) ≡ bad_spread (width_of set) (spread_of set)
folded_end set m n seen none c r em en i l e =
    ap (λ (b : Bool). none || b) e
    ∙ folded_ends m (words_at set spread_at n) none seen c (omega (arith, l, length_words_at set spread_at n)) i.1
    ∙ ap₂ (λ (x y : ℕ). bad_spread x (words_at set spread_at y)) em en

-- ---- number 8

pub wrong_length_counted : (set : List ℕ) (n s k : ℕ) (r : Bool) → n ≡ chains_of set → s ≡ slices_of set → k ≡ tie_count_of set
    → r ≡ (ltb most_ties k || not (eqb (length set) (set_length n s k))) → r ≡ wrong_length set
wrong_length_counted set n s k r en es ek er =
    er
    ∙ ap₂ (λ (x y : ℕ). ltb most_ties k || not (eqb (length set) (set_length x y k))) en es
    ∙ ap (λ (x : ℕ). ltb most_ties x || not (eqb (length set) (set_length (chains_of set) (slices_of set) x))) ek

-- ---- number 9

pub spare_none : (set : List ℕ) (n at : ℕ) → n ≡ chains_of set → at ≡ rows_at n → length set < at → false ≡ spare_in_rows set
spare_none set n at e a h =
    let empty : length (rows_of set) ≡ 0 = length-drop (rows_at (chains_of set)) set ∙ omega arith in
    spare_rows_none (chains_of set) (rows_of set) (2 * slices_of set) empty ∙ sym (spare_of_rows set)

pub spare_of : (set : List ℕ) (n s at : ℕ) (r : Bool) → n ≡ chains_of set → s ≡ slices_of set → at ≡ rows_at n
    → r ≡ any_below (2 * s) (SpareRow n (take (length set - at) (drop at set))) → r ≡ spare_in_rows set
spare_of set n s at r en es ea er =
    let whole : take (length set - at) (drop at set) ≡ drop at set =
    take_all (length set - at) (drop at set) (omega (arith, length-drop at set))
    in
    let place : at ≡ rows_at (chains_of set) = omega arith in
    er ∙ ap (λ (l : List ℕ). any_below (2 * s) (SpareRow n l)) (whole ∙ ap (λ (k : ℕ). drop k set) place)
    ∙ ap₂ (λ (k x : ℕ). any_below (2 * x) (SpareRow k (rows_of set))) en es ∙ sym (spare_of_rows set)

-- ---- number 10

-- slice t's value row and mark row have a bit in common
abbrev pub SharedIn : List ℕ → ℕ → Bool
SharedIn set t = shares_bit (value_row set t) (mark_row set t)

-- the slices before t share nothing, and `at` is the place of slice t's value row
pub record Unshared (set : List ℕ) (t at : ℕ) : Type 0 where
  pub place : at ≡ value_at (chains_of set) t
  pub most : at ≤ 600000 + length set
  pub none : any_below t (SharedIn set) ≡ false

pub unshared_start : (set : List ℕ) (n at : ℕ) → n ≡ chains_of set → n < 65536 → at ≡ rows_at n → Unshared set 0 at
unshared_start set n at e h ea =
    record { place = omega (arith, mul-zero (2 * row_bytes (chains_of set))); most = omega arith; none = none_passed (SharedIn set) }

module _ (set : List ℕ) (t at bytes : ℕ) (u : Unshared set t at) (eb : bytes ≡ row_bytes (chains_of set)) where
  pub rows_lent : (r : Bool) → r ≡ shares_bit (take (at + bytes - at) (drop at set)) (take (at + bytes + bytes - (at + bytes)) (drop (at + bytes) set))
      → r ≡ SharedIn set t
  unfolding value_row mark_row
  rows_lent r er =
      let first : at + bytes - at ≡ row_bytes (chains_of set) = omega arith in
      let second : at + bytes + bytes - (at + bytes) ≡ row_bytes (chains_of set) = omega arith in
      let mark : at + bytes ≡ mark_at (chains_of set) t = omega (arith, u.place) in
      er
      ∙ ap₂ shares_bit (ap₂ (λ (k i : ℕ). take k (drop i set)) first u.place) (ap₂ (λ (k i : ℕ). take k (drop i set)) second mark)

  pub unshared_turn : (r : Bool) → at + bytes + bytes ≤ length set
      → r ≡ shares_bit (take (at + bytes - at) (drop at set)) (take (at + bytes + bytes - (at + bytes)) (drop (at + bytes) set))
      → r ≡ false → Unshared set (t + 1) (at + bytes + bytes)
  unshared_turn r inside er off = record {
    place = omega (arith, u.place, mul-add (2 * row_bytes (chains_of set)) t 1, mul-one (2 * row_bytes (chains_of set)));
    most = omega arith;
    none = one_passed (SharedIn set) t u.none (sym (rows_lent r er) ∙ off);
  }

-- ---- the three ways out: the set ends too soon, a bit is shared, no slice shares one

abbrev pub Valued : List ℕ → Bool → Type 0
Valued set r = wrong_length set ≡ false → spare_in_rows set ≡ false → r ≡ valued_in_rows set

pub valued_short : (set : List ℕ) (t at bytes s : ℕ) → Unshared set t at → bytes ≡ row_bytes (chains_of set) → s ≡ slices_of set → t < s
    → length set < at + bytes + bytes → Valued set false
valued_short set t at bytes s u eb es l short long clean =
    let z : ⊥ = omega (arith, slice_inside set (length_fits set long) t (rw es at l), u.place) in absurd z

module _ (set : List ℕ) (small : (i : ℕ) → get_or set i 0 < 256) where
  pub valued_found : (t at bytes s : ℕ) (r : Bool) → Unshared set t at → bytes ≡ row_bytes (chains_of set) → s ≡ slices_of set → t < s
      → r ≡ shares_bit (take (at + bytes - at) (drop at set)) (take (at + bytes + bytes - (at + bytes)) (drop (at + bytes) set))
      → r ≡ true → Valued set true
  valued_found t at bytes s r u eb es l er on long clean =
      one_found (SharedIn set) (slices_of set) t (rw es at l) (sym (rows_lent set t at bytes u eb r er) ∙ on)
      ∙ valued_of_bytes set clean (length_fits set long) small

  pub valued_none : (t at s : ℕ) → Unshared set t at → s ≡ slices_of set → t ≡ s → Valued set false
  valued_none t at s u es e long clean =
      all_passed (SharedIn set) (slices_of set) t u.none (e ∙ es) ∙ valued_of_bytes set clean (length_fits set long) small

  -- rows of 32 bytes, compared by words
  pub valued_pairs : (n s at bytes : ℕ) (r : Bool) → n ≡ chains_of set → s ≡ slices_of set → at ≡ rows_at n → bytes ≡ row_bytes n → bytes ≡ 32
      → r ≡ any_below s (PairMeets set at) → Valued set r
  unfolding value_row mark_row
  valued_pairs n s at bytes r en es ea eb wide er long clean =
      er
      ∙ any_below_ext s (PairMeets set at) (SharedIn set)
      (λ t l. ap₂ shares_bit (ap₂ (λ (k i : ℕ). take k (drop i set)) (sym width) (value t)) (ap₂ (λ (k i : ℕ). take k (drop i set)) (sym width) (mark t)))
      ∙ ap (λ (k : ℕ). any_below k (SharedIn set)) es ∙ valued_of_bytes set clean (length_fits set long) small
    where
      width : row_bytes (chains_of set) ≡ 32
      width = ap row_bytes (sym en) ∙ sym eb ∙ wide

      value : (t : ℕ) → at + 64 * t ≡ value_at (chains_of set) t
      value t =
          let place : at ≡ rows_at (chains_of set) = ea ∙ ap rows_at en in
          sym (ap (λ (b : ℕ). rows_at (chains_of set) + 2 * b * t) width ∙ omega (arith, place))

      mark : (t : ℕ) → at + 64 * t + 32 ≡ mark_at (chains_of set) t
      mark t = ap₂ (λ (x y : ℕ). x + y) (value t) (sym width)

-- ---- numbers 29 to 31

-- .. for k ties
abbrev pub Tied : List ℕ → ℕ → ℕ → Type 0
Tied set k x = x ≡ first_of (tie_tests (slices_of set) (chains_of set) (marks set) (ties_in (tie_bytes set) k))

pub tied_none : (set : List ℕ) (k : ℕ) → k ≡ 0 → Tied set k 0
tied_none set k z = tie_tests_none (slices_of set) (chains_of set) (marks set) (ties_in (tie_bytes set) k) z

pub tied_of : (set l : List ℕ) (n s k x : ℕ) (r : Rows) → n ≡ chains_of set → s ≡ slices_of set → l ≡ tie_bytes set
    → (r.at ≡ mark_at n 0) × (r.stride ≡ 2 * row_bytes n) × (r.bytes ≡ row_bytes n) → x ≡ first_of (tie_tests s n (cells_of set r) (ties_in l k)) → Tied set k x
tied_of set l n s k x r en es el er ex =
    ex
    ∙ tie_tests_marks s n (cells_of set r) (marks set) (ties_in l k) (λ t b c. ap (λ (row : List ℕ). cell row c) (mark_rows_row set n r en er t))
    ∙ ap₂ (λ (x y : ℕ). first_of (tie_tests x y (marks set) (ties_in l k))) es en
    ∙ ap (λ (y : List ℕ). first_of (tie_tests (slices_of set) (chains_of set) (marks set) (ties_in y k))) el

pub tied_counted : (set : List ℕ) (k x : ℕ) → k ≡ tie_count_of set → Tied set k x
    → x ≡ first_of (tie_tests (slices_of set) (chains_of set) (marks set) (ties_of set))
tied_counted set k x ek ex =
    ex ∙ ap (λ (c : ℕ). first_of (tie_tests (slices_of set) (chains_of set) (marks set) (ties_in (tie_bytes set) c))) ek
