-- Each way out of the call that gives the expected bits of a list of words, and what it answers; and what the call answers for a list that
-- meets no number (expect_answered). Assumes nothing.
use mathlib.Core.Path.{◌≡◌, sym, ap, ap₂, ◌∙◌}
use mathlib.Core.Bool.{true, false}
use mathlib.Core.List.{List}
use Prim.Native.Nat.{ℕ, ◌≤◌, min}
use native.Mathlib.Omega.{arith}
use lib.Bits.{bit_xor}
use lib.ListN.{length, take}
use lib.Seq.{take_all}
use Rattle.std.specs.Prelude.{Result, Err}
use Rattle.refusals.specs.declared.Refusal.{Refusal}
use Rattle.refusals.specs.Refusals.{number}
use Rattle.refusals.proofs.RefusalLaws.{not_zero, refused_call}
use Rattle.word.specs.Parities.{parities}
use Rattle.word.specs.Reply.{answer, refusal, first_of}
use Rattle.word.proofs.ReplyLaws.{replied_answered}
use Rattle.word.proofs.TestLaws.{none_and_rest, first_of_later, first_sooner}
use Rattle.combinations.specs.Reduced.{is_reduced}
use Rattle.reduced_list.specs.WordCount.{bad_word_count}
use Rattle.reduced_list.proofs.CountLaws.{good_count}
use Rattle.ties.specs.Ties.{ties_in}
use Rattle.ties.specs.Symbols.{Within}
use Rattle.chains.specs.Driven.{bad_spread}
use Rattle.register.specs.Circuit.{Circuit, chains}
use Rattle.set_layout.specs.Layout.{width_of, circuit_of, slices_of, values, value_row, tie_count_of, tie_bytes, ties_of}
use Rattle.set_file.specs.Reading.{set_tests, set_reply, taken_circuit, TakenFrom}
use Rattle.set_file.specs.declared.Taken.{Taken}
use Rattle.set_file.proofs.Laws.{accepted, accepted_width, set_numbered}
use Rattle.set_file.proofs.ReadLaws.{refused_set}
use Rattle.signatures.specs.Signature.{signature}
use Rattle.signatures.specs.Symbols.{side_columns}
use Rattle.signatures.specs.Sets.{zero_signature}
use Rattle.signatures.proofs.SetLaws.{zero_of_values}
use Rattle.signatures.proofs.TakenLaws.{own_slices, own_spread, own_ties, own_within}
use Rattle.signing.specs.Signing.{value_cells}
use Rattle.expectation.specs.Expecting.{expected_for, word_tests, expect_tests, expect_reply, said_expected}

-- the columns of a taken set's cells that are tied as opposite
pub opposite_taken : (set : List ℕ) (k : Taken) (ties : List ℕ) (count r : ℕ) → TakenFrom set k → ties ≡ tie_bytes set → count ≡ tie_count_of set
    → (Within (min k.s 512) (chains (taken_circuit k)) (ties_in ties count) → bad_spread (min k.register.m 64) (take k.n k.spread) ≡ false
    → r ≡ side_columns (taken_circuit k) (min k.s 512) (ties_in ties count))
    → r ≡ side_columns (circuit_of set) (slices_of set) (ties_of set)
opposite_taken set k ties count r taken et ec made =
    made (own_within set k taken ties count et ec) (own_spread set k taken)
    ∙ ap₂ (λ (x : Circuit) (s : ℕ). side_columns x s (ties_in ties count)) taken.circuit (own_slices set k taken)
    ∙ ap (side_columns (circuit_of set) (slices_of set)) (own_ties set k taken ties count et ec)

-- .. XORed with the signature of its value rows give that for all symbols 0
pub zero_taken : (set : List ℕ) (k : Taken) (y r : ℕ) → TakenFrom set k → y ≡ signature (taken_circuit k) (value_cells k.n set) k.s
    → r ≡ side_columns (circuit_of set) (slices_of set) (ties_of set) → bit_xor y r ≡ zero_signature set
unfolding value_row
zero_taken set k y r taken e er =
    ap₂ bit_xor
    (e ∙ ap₂ (λ (x : Circuit) (n : ℕ). signature x (value_cells n set) k.s) taken.circuit taken.chains
    ∙ ap (signature (circuit_of set) (values set)) taken.slices)
    er
    ∙ sym (zero_of_values set (accepted set taken.none))

-- at most 64 words have all their bits there
pub expected_taken : (set ws : List ℕ) (y : ℕ) → length ws ≤ 64 → y ≡ parities (take 64 ws) (zero_signature set) → y ≡ expected_for set ws
expected_taken set ws y few e = e ∙ ap (λ (l : List ℕ). parities l (zero_signature set)) (take_all 64 ws few)

-- the set is refused
pub expect_set_refused : (set ws : List ℕ) (r : Result ℕ Refusal) (e : Refusal) → r ≡ Err e → refusal (number e) ≡ set_reply set
    → said_expected r ≡ expect_reply set ws
unfolding expect_reply expect_tests
expect_set_refused set ws r e is h =
    refused_call (λ n. n) r e _ _ is (first_sooner (set_tests set) _ (number e) (refused_set set (number e) h) (not_zero e))

-- ---- past the set's numbers

module _ (set ws : List ℕ) (none : first_of (set_tests set) ≡ 0) where
  expect_later : first_of (expect_tests set ws) ≡ first_of (word_tests (width_of set) ws)
  unfolding expect_tests
  expect_later = first_of_later (set_tests set) (word_tests (width_of set) ws) (set_numbered set) none

  -- the words are refused
  pub expect_words_refused : (m : ℕ) (r : Result ℕ Refusal) (e : Refusal) → r ≡ Err e → m ≡ width_of set → number e ≡ first_of (word_tests m ws)
      → said_expected r ≡ expect_reply set ws
  unfolding expect_reply
  expect_words_refused m r e is em h =
      refused_call (λ n. n) r e _ _ is (h ∙ ap (λ (x : ℕ). first_of (word_tests x ws)) em ∙ sym expect_later)

  -- words that meet neither number get their expected bits, whichever set they were made of
  pub expect_answered : first_of (word_tests (width_of set) ws) ≡ 0 → expect_reply set ws ≡ answer (expected_for set ws)
  unfolding expect_reply
  expect_answered h = replied_answered (first_of (expect_tests set ws)) (expected_for set ws) (expect_later ∙ h)

-- a reduced list of as many words as there can be meets neither
pub no_word_test : (m : ℕ) (ws : List ℕ) → bad_word_count m (length ws) ≡ false → is_reduced m ws ≡ true → first_of (word_tests m ws) ≡ 0
unfolding word_tests
no_word_test m ws good reduced = rw (good, reduced)

-- .. so there are at most 64
words_limited : (m : ℕ) (ws : List ℕ) → m ≤ 64 → first_of (word_tests m ws) ≡ 0 → length ws ≤ 64
unfolding word_tests
words_limited m ws h none =
    omega (arith, (good_count m (length ws) (none_and_rest (bad_word_count m (length ws)) 19 _ none).0).1)

pub expect_answers : (set ws : List ℕ) (k : Taken) (y : ℕ) → TakenFrom set k → 0 ≡ first_of (word_tests k.register.m ws)
    → y ≡ parities (take 64 ws) (zero_signature set) → answer y ≡ expect_reply set ws
expect_answers set ws k y taken none ey =
    let neither : first_of (word_tests (width_of set) ws) ≡ 0 = ap (λ (x : ℕ). first_of (word_tests x ws)) (sym taken.width) ∙ sym none in
    let few : length ws ≤ 64 = words_limited (width_of set) ws (accepted_width set (accepted set taken.none)).1 neither in
    ap answer (expected_taken set ws y few ey) ∙ sym (expect_answered set ws taken.none neither)
