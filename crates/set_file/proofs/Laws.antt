-- The laws that the crates above cite: what an accepted set knows, and what the reader's reply says of its set. A set is
-- accepted where none of the set's numbers applies to it. Assumes nothing.
use mathlib.Core.Path.{◌≡◌, refl}
use mathlib.Core.Bool.{true, false, ◌&&◌, ◌||◌}
use mathlib.Core.List.{List}
use Prim.Native.Nat.{ℕ, ◌≤◌, ◌<◌}
use native.Mathlib.Omega.{arith}
use borrow.Author.Tests.{eq-eqb, le-ltb, ltb-false}
use lib.Dec.{eqb, ltb}
use lib.ListN.{length}
use Rattle.word.specs.Word.{bad_width}
use Rattle.word.specs.Some.{any_below}
use Rattle.word.specs.Reply.{answer, refusal, first_of}
use Rattle.word.proofs.WordLaws.{good_width}
use Rattle.word.proofs.SomeLaws.{any_below_false}
use Rattle.word.proofs.BoolLaws.{or_false_right}
use Rattle.word.proofs.ReplyLaws.{replied_answered}
use Rattle.word.proofs.TestLaws.{none_and_rest, numbered, replied_number}
use Rattle.rows.specs.Row.{row_bytes, spare_set}
use Rattle.ties.specs.Ties.{most_ties, wrong_order, wrong_sides}
use Rattle.register.specs.Circuit.{bad_taps, bad_inversion, bad_chains}
use Rattle.chains.specs.Driven.{bad_spread}
use Rattle.set_layout.specs.Layout.{chains_at, spread_at, slices_at, head_length, set_length, width_of, taps_of, inversion_of, chains_of, spread_of, slices_of, value_row, mark_row, values, marks, tie_count_of, ties_of}
use Rattle.set_file.specs.Reading.{bad_slices, wrong_length, spare_in_rows, valued_in_rows, wrong_ties, set_tests, set_parts_of, set_reply}
use Rattle.set_layout.proofs.LayoutLaws.{good_chains}
use Rattle.set_layout.proofs.SliceLaws as slices
use Rattle.set_file.proofs.RowTests as tests

-- ---- the reader's tests and its reply

-- each of the tests has a number, so that tests after them decide where none applies
pub set_numbered : (set : List ℕ) → numbered (set_tests set) ≡ true
unfolding set_tests
set_numbered set = refl

pub set_answers : (set : List ℕ) → first_of (set_tests set) ≡ 0 → set_reply set ≡ answer (set_parts_of set)
unfolding set_reply
set_answers set h = replied_answered (first_of (set_tests set)) (set_parts_of set) h

pub set_refusal_first : (set : List ℕ) (k : ℕ) → set_reply set ≡ refusal k → first_of (set_tests set) ≡ k
unfolding set_reply
set_refusal_first set k h = replied_number (first_of (set_tests set)) (set_parts_of set) k h

-- ---- an accepted set

pub record Accepted (set : List ℕ) : Type 0 where
  pub width : bad_width (width_of set) ≡ false
  pub taps : bad_taps (width_of set) (taps_of set) ≡ false
  pub inversion : bad_inversion (width_of set) (inversion_of set) ≡ false
  pub chains : bad_chains (chains_of set) ≡ false
  pub spread : bad_spread (width_of set) (spread_of set) ≡ false
  pub slices : slices_of set ≤ 512
  pub few : tie_count_of set ≤ 256
  pub long : length set ≡ set_length (chains_of set) (slices_of set) (tie_count_of set)
  pub clean : spare_in_rows set ≡ false
  pub unvalued : valued_in_rows set ≡ false
  pub ties : wrong_ties set ≡ false
  pub order : wrong_order (ties_of set) ≡ false
  pub sides : wrong_sides (ties_of set) ≡ false

pub accepted : (set : List ℕ) → first_of (set_tests set) ≡ 0 → Accepted set
unfolding set_tests bad_slices
accepted set h =
    let p1 = none_and_rest (ltb (length set) chains_at) 0 _ h in
    let p2 = none_and_rest (bad_width (width_of set)) 1 _ p1.1 in
    let p3 = none_and_rest (bad_taps (width_of set) (taps_of set)) 2 _ p2.1 in
    let p25 = none_and_rest (bad_inversion (width_of set) (inversion_of set)) 24 _ p3.1 in
    let p4 = none_and_rest (ltb (length set) spread_at || bad_chains (chains_of set)) 3 _ p25.1 in
    let p5 = none_and_rest (ltb (length set) (slices_at (chains_of set))) 4 _ p4.1 in
    let p6 = none_and_rest (bad_spread (width_of set) (spread_of set)) 5 _ p5.1 in
    let p7 = none_and_rest (bad_slices set) 6 _ p6.1 in
    let p8 = none_and_rest (wrong_length set) 7 _ p7.1 in
    let p9 = none_and_rest (spare_in_rows set) 8 _ p8.1 in
    let p10 = none_and_rest (valued_in_rows set) 9 _ p9.1 in
    let p29 = none_and_rest (wrong_ties set) 28 _ p10.1 in
    let p30 = none_and_rest (wrong_order (ties_of set)) 29 _ p29.1 in
    let p31 = none_and_rest (wrong_sides (ties_of set)) 30 _ p30.1 in
    record {
      width = p2.0;
      taps = p3.0;
      inversion = p25.0;
      chains = or_false_right (ltb (length set) spread_at) (bad_chains (chains_of set)) p4.0;
      spread = p6.0;
      slices = ltb-false 512 (slices_of set) (or_false_right (ltb (length set) (head_length (chains_of set))) (ltb 512 (slices_of set)) p7.0);
      few = tests.ties_few set p8.0;
      long = tests.length_fits set p8.0;
      clean = p9.0;
      unvalued = p10.0;
      ties = p29.0;
      order = p30.0;
      sides = p31.0;
    }

module _ (set : List ℕ) (a : Accepted set) where
  pub accepted_width : (1 ≤ width_of set) × (width_of set ≤ 64)
  accepted_width = good_width (width_of set) a.width

  pub accepted_chains : (1 ≤ chains_of set) × (chains_of set ≤ 256)
  accepted_chains = good_chains (chains_of set) a.chains

  pub value_row_length : (t : ℕ) → t < slices_of set → length (value_row set t) ≡ row_bytes (chains_of set)
  value_row_length = slices.value_row_length set a.long

  pub mark_row_length : (t : ℕ) → t < slices_of set → length (mark_row set t) ≡ row_bytes (chains_of set)
  mark_row_length = slices.mark_row_length set a.long

  pub value_row_clean : (t : ℕ) → t < slices_of set → spare_set (chains_of set) (value_row set t) ≡ false
  value_row_clean = tests.value_row_clean set a.clean

  pub mark_row_clean : (t : ℕ) → t < slices_of set → spare_set (chains_of set) (mark_row set t) ≡ false
  mark_row_clean = tests.mark_row_clean set a.clean

  -- document 01: "An unknown cell's value bit is 0."
  pub unknown_unvalued : (t c : ℕ) → t < slices_of set → c < chains_of set → values set t c ≡ 1 → marks set t c ≡ 1 → ⊥
  unknown_unvalued t c ht hc v k =
      let off : (eqb (values set t c) 1 && eqb (marks set t c) 1) ≡ false =
      any_below_false (chains_of set) (λ c. eqb (values set t c) 1 && eqb (marks set t c) 1)
      (any_below_false (slices_of set) (λ t. any_below (chains_of set) (λ c. eqb (values set t c) 1 && eqb (marks set t c) 1)) a.unvalued t ht) c hc
      in
      let on : (eqb (values set t c) 1 && eqb (marks set t c) 1) ≡ true = rw (eq-eqb (values set t c) 1 v, eq-eqb (marks set t c) 1 k) in
      let z : ◌≡◌ {A = ℕ} 0 1 = cc in
      omega arith

-- a set that is right in each part meets no number
pub accepted_back : (set : List ℕ) → Accepted set → first_of (set_tests set) ≡ 0
unfolding set_tests bad_slices
accepted_back set a =
    let n = chains_of set in
    let b1 : ltb (length set) chains_at ≡ false = le-ltb (length set) chains_at (omega (arith, a.long)) in
    let b4 : ltb (length set) spread_at ≡ false = le-ltb (length set) spread_at (omega (arith, a.long)) in
    let b5 : ltb (length set) (slices_at n) ≡ false = le-ltb (length set) (slices_at n) (omega (arith, a.long)) in
    let b7 : ltb (length set) (head_length n) ≡ false = le-ltb (length set) (head_length n) (omega (arith, a.long)) in
    let slices : ltb 512 (slices_of set) ≡ false = le-ltb 512 (slices_of set) a.slices in
    let few : ltb most_ties (tie_count_of set) ≡ false = le-ltb most_ties (tie_count_of set) a.few in
    let b8 = eq-eqb (length set) (set_length n (slices_of set) (tie_count_of set)) a.long in
    rw (b1, a.width, a.taps, a.inversion, b4, a.chains, b5, a.spread, b7, slices, few, b8, a.clean, a.unvalued, a.ties, a.order, a.sides)
