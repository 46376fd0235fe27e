-- What planning's answer for a set says, and what it refuses with. Assumes nothing.
use mathlib.Core.Path.{◌≡◌, refl, ap, ◌∙◌}
use mathlib.Core.Bool.{true}
use mathlib.Core.List.{List, [], ◌∷◌}
use Prim.Native.Nat.{ℕ}
use lib.Dec.{ltb}
use lib.ListN.{length}
use Rattle.word.specs.Reply.{◌when◌, answer, refusal, replied, first_of}
use Rattle.word.proofs.Laws.{parities_lt}
use Rattle.word.proofs.TestLaws.{replied_answer, without, refused_applies}
use Rattle.combinations.specs.Combination.{only_empty}
use Rattle.set_layout.specs.Layout.{width_of}
use Rattle.set_file.specs.Reading.{set_tests}
use Rattle.set_file.proofs.Laws.{Accepted, accepted, accepted_width}
use Rattle.signatures.specs.Sets.{columns_of, zero_signature}
use Rattle.kept_words.specs.Working.{words_of}
use Rattle.planner.specs.Planning.{expected_of, earlier_tests, plan_tests, PlanParts, parts_of, plan_reply}
use Rattle.planner.proofs.NumberLaws as numbers
use Rattle.planner.proofs.NumberLaws.{plan_later, earlier_set}
use Rattle.planner.proofs.CallLaws.{planned_parts}
use Rattle.plan_writer.specs.Writing.{plan_content, plan_bytes}
use Rattle.plan_writer.proofs.Parts.{Content}
use Rattle.guarantee.specs.Demand.{plan_file}

-- ---- planning's tests: the set's and 14, then 17 and 18

earlier_without_seventeen : (set : List ℕ) (k : ℕ) → without 17 (earlier_tests set k) ≡ true
unfolding earlier_tests set_tests
earlier_without_seventeen set k = refl

module _ (set : List ℕ) (k l : ℕ) where
  -- 17 means that the set is accepted and no X-free combination but the empty one exists
  pub seventeen_only_empty : plan_reply set k l ≡ refusal 17 → Accepted set × (only_empty (width_of set) (columns_of set) ≡ true)
  unfolding plan_reply plan_tests
  seventeen_only_empty h =
      let found =
      refused_applies 17 (only_empty (width_of set) (columns_of set)) (earlier_tests set k) (18 when ltb l (length (words_of set)) ∷ []) (parts_of set)
      (earlier_without_seventeen set k) refl h
      in
      (accepted set (earlier_set set k found.0), found.1)

  -- .. and where that is so and no earlier number applies, 17 it is
  pub only_empty_seventeen : first_of (earlier_tests set k) ≡ 0 → only_empty (width_of set) (columns_of set) ≡ true → plan_reply set k l ≡ refusal 17
  unfolding plan_reply
  only_empty_seventeen h e =
      let number : first_of (plan_tests set k l) ≡ 17 = plan_later set k l h ∙ (rw e) in
      ap (λ (n : ℕ). replied n (parts_of set)) number

-- ---- planning's answer

module _ (set : List ℕ) (k l : ℕ) (p : PlanParts) (h : plan_reply set k l ≡ answer p) where
  pub planned_none : first_of (plan_tests set k l) ≡ 0
  unfolding plan_reply
  planned_none = (replied_answer (first_of (plan_tests set k l)) (parts_of set) p h).0

  pub planned_accepted : Accepted set
  planned_accepted = numbers.planned_accepted set k l planned_none

  -- the plan writer takes m, the words and the expected bits
  pub planned_content : Content (plan_content (width_of set) (words_of set) (expected_of set))
  unfolding expected_of
  planned_content =
      record {
        width_positive = (accepted_width set planned_accepted).0;
        width_most = (accepted_width set planned_accepted).1;
        count_positive = (numbers.words_count set k l planned_none).0;
        count_most = (numbers.words_count set k l planned_none).1;
        reduced = numbers.words_reduced set k l planned_none;
        expected_inside = parities_lt (words_of set) (zero_signature set);
      }

  -- planning's plan file is that of m, the words and the expected bits of the set
  pub planned_file : plan_file set p ≡ plan_bytes (plan_content (width_of set) (words_of set) (expected_of set))
  unfolding plan_file
  planned_file = ap (λ (x : PlanParts). plan_bytes (plan_content x.m (words_of set) x.expected)) (planned_parts set k l p h)
