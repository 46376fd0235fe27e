-- Planning is the two calls in a row. Document 02, No. 2: "Planning is to be split in two: one call gives the words, the other the expected
-- bits for a set and its words."
--
--   plan_in_a_row   planning's reply is the two replies one after the other: that of the call that gives the words, and for its words that
--                   of the call that gives the expected bits, which then never refuses
--   words_of_plan   the call that gives the words replies as planning does, without the expected bits
-- Assumes nothing.
use mathlib.Core.Path.{◌≡◌, refl, sym, ap}
use mathlib.Core.List.{List}
use Prim.Native.Nat.{ℕ, zero, suc}
use Rattle.word.specs.Reply.{Reply, answer, replied, first_of, after}
use Rattle.reduced_list.proofs.CountLaws.{not_bad_count}
use Rattle.kept_words.specs.Working.{words_of}
use Rattle.expectation.specs.Expecting.{expect_reply}
use Rattle.expectation.proofs.CallLaws.{expect_answered, no_word_test}
use Rattle.planner.specs.Planning.{expected_of, plan_tests, WordParts, word_parts_of, words_reply, PlanParts, parts_of, plan_reply}
use Rattle.planner.proofs.NumberLaws.{planned_none, words_count, words_reduced}

-- the expected bits e behind the parts w
abbrev pub with_bits : WordParts → ℕ → PlanParts
with_bits w e = record { m = w.m; q = w.q; expected = e }

-- the call that gives the expected bits takes the words that planning has
pub own_expected : (set : List ℕ) (k l : ℕ) → first_of (plan_tests set k l) ≡ 0 → expect_reply set (words_of set) ≡ answer (expected_of set)
unfolding expected_of
own_expected set k l none =
    let many = words_count set k l none in
    expect_answered set (words_of set) (planned_none set k l none)
    (no_word_test _ (words_of set) (not_bad_count _ _ many.0 many.1) (words_reduced set k l none))

pub plan_in_a_row : (set : List ℕ) (k l : ℕ)
    → plan_reply set k l ≡ after (words_reply set k l) (λ w. after (expect_reply set (words_of set)) (λ e. answer (with_bits w e)))
unfolding plan_reply words_reply
plan_in_a_row set k l = go (first_of (plan_tests set k l)) refl
  where
    go : (n : ℕ) → first_of (plan_tests set k l) ≡ n
        → replied n (parts_of set) ≡ after (replied n (word_parts_of set)) (λ w. after (expect_reply set (words_of set)) (λ e. answer (with_bits w e)))
    go zero h = sym (ap (λ (r : Reply ℕ). after r (λ e. answer (with_bits (word_parts_of set) e))) (own_expected set k l h))
    go (suc n) h = refl

pub words_of_plan : (set : List ℕ) (k l : ℕ)
    → words_reply set k l ≡ after (plan_reply set k l) (λ p. answer (record { m = p.m; q = p.q }))
unfolding plan_reply words_reply
words_of_plan set k l = go (first_of (plan_tests set k l))
  where
    go : (n : ℕ) → replied n (word_parts_of set) ≡ after (replied n (parts_of set)) (λ p. answer (record { m = p.m; q = p.q }))
    go zero = refl
    go (suc n) = refl
