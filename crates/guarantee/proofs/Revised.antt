-- Expectations revised without new words. Document 02, No. 2: "Designers correct expected values weekly while the unknown marks stay.";
-- "one call gives the words, the other the expected bits for a set and its words. Plans and the printer's lines are made from both."
-- Here `old` is the set of which a plan was made, with planning's answer p, and `new` is that set with other values (Revised), to which
-- none of the set's numbers applies.
--
--   revised_expected        the second call takes the old words and answers with the new set's expected bits
--   revised_planned         planning of the new set answers, with the same lent lists, with the same m and q and those bits
--   revised_file            the old plan file with the second call's bits is the plan file made of the new set
-- So demand 3 holds of that file and the new set:
--   revised_alike           records that are alike in every known cell get the same cancelled bits and verdict
--   revised_passes_exactly  a signature of the register's width passes exactly when some filling of the new set explains it
--   revised_fails_exactly   .. and fails, at the first word that disagrees, exactly when none does
-- Assumes nothing.
use mathlib.Core.Path.{◌≡◌, sym, ap, ap₂, ◌∙◌, subst}
use mathlib.Core.List.{List}
use Prim.Native.Nat.{ℕ, ◌^◌, ◌<◌}
use Rattle.word.specs.Parities.{parities}
use Rattle.word.specs.Reply.{answer, first_of}
use Rattle.set_layout.specs.Layout.{width_of}
use Rattle.set_file.specs.Reading.{set_tests}
use Rattle.signatures.specs.Sets.{Explained, Revised}
use Rattle.signing.specs.Signing.{sign_reply}
use Rattle.expectation.specs.Expecting.{expect_reply}
use Rattle.kept_words.specs.Working.{words_of}
use Rattle.planner.specs.Planning.{expected_of, plan_tests, PlanParts, parts_of, plan_reply}
use Rattle.planner.proofs.NumberLaws as numbers
use Rattle.planner.proofs.InARow.{own_expected}
use Rattle.planner.proofs.Revised.{same_width, same_words, same_number}
use Rattle.plan_writer.specs.Writing.{plan_content, plan_bytes}
use Rattle.plan_writer.proofs.Parts.{written_width, written_words}
use Rattle.plan_file.specs.Layout.{file_width, file_words}
use Rattle.judge.specs.Verdict.{passes, fails_at, Finding, judge_reply}
use Rattle.guarantee.specs.Demand.{AlikeObeying, plan_file, with_expected, FirstDisagrees}
use Rattle.guarantee.proofs.Planned as planned
use Rattle.guarantee.proofs.Theorems.{same_for_alike_records, passes_exactly, fails_exactly}

module _ (old new : List ℕ) (k l : ℕ) (p : PlanParts) (h : plan_reply old k l ≡ answer p) (r : Revised old new) (taken : first_of (set_tests new) ≡ 0) where
  none : first_of (plan_tests new k l) ≡ 0
  none =
      let before : first_of (plan_tests old k l) ≡ 0 = planned.planned_none old k l p h in
      sym (same_number old new r (numbers.planned_none old k l before) taken k l) ∙ before

  pub revised_expected : expect_reply new (words_of old) ≡ answer (expected_of new)
  revised_expected = ap (expect_reply new) (same_words old new r) ∙ own_expected new k l none

  pub revised_planned : plan_reply new k l ≡ answer (parts_of new)
  unfolding plan_reply
  revised_planned = rw none

  -- e is what the second call answers for the old plan's words
  module _ (e : ℕ) (he : expect_reply new (file_words (plan_file old p)) ≡ answer e) where
    old_file : plan_file old p ≡ plan_bytes (plan_content (width_of old) (words_of old) (expected_of old))
    old_file = planned.planned_file old k l p h

    old_words : file_words (plan_file old p) ≡ words_of new
    old_words = ap file_words old_file ∙ written_words _ (planned.planned_content old k l p h) ∙ same_words old new r

    old_width : file_width (plan_file old p) ≡ width_of new
    old_width = ap file_width old_file ∙ written_width _ (planned.planned_content old k l p h) ∙ same_width old new r

    bits : e ≡ expected_of new
    bits =
        let both : answer e ≡ answer (expected_of new) = sym he ∙ ap (expect_reply new) old_words ∙ own_expected new k l none in
        cc

    pub revised_file : with_expected (plan_file old p) e ≡ plan_file new (parts_of new)
    unfolding with_expected plan_file
    revised_file =
        ap₂ (λ (m : ℕ) (ws : List ℕ). plan_bytes (plan_content m ws e)) old_width old_words
        ∙ ap (λ (x : ℕ). plan_bytes (plan_content (width_of new) (words_of new) x)) bits

    pub revised_alike : (a b : List ℕ) (y z : ℕ) → sign_reply new a ≡ answer y → sign_reply new b ≡ answer z → AlikeObeying new a b
        → judge_reply (with_expected (plan_file old p) e) y ≡ judge_reply (with_expected (plan_file old p) e) z
    revised_alike a b y z ha hb alike =
        subst (λ (f : List ℕ). judge_reply f y ≡ judge_reply f z) (sym revised_file)
        (same_for_alike_records new k l (parts_of new) a b y z revised_planned ha hb alike)

    pub revised_passes_exactly : (y : ℕ) → y < 2 ^ width_of new
        → (Explained new y → judge_reply (with_expected (plan_file old p) e) y ≡ answer (record { cancelled = expected_of new; outcome = passes }))
        × ((f : Finding) → judge_reply (with_expected (plan_file old p) e) y ≡ answer f → f.outcome ≡ passes → Explained new y)
    revised_passes_exactly y w =
        let exactly = passes_exactly new k l (parts_of new) y revised_planned w in
        let same : judge_reply (with_expected (plan_file old p) e) y ≡ judge_reply (plan_file new (parts_of new)) y = ap (λ (f : List ℕ). judge_reply f y) revised_file in
        ((λ x. same ∙ exactly.0 x), (λ f j o. exactly.1 f (sym same ∙ j) o))

    pub revised_fails_exactly : (y : ℕ) → y < 2 ^ width_of new
        → ((f : Finding) (i : ℕ) → judge_reply (with_expected (plan_file old p) e) y ≡ answer f → f.outcome ≡ fails_at i
        → (Explained new y → ⊥) × FirstDisagrees new y i)
        × ((Explained new y → ⊥)
        → (i : ℕ) × FirstDisagrees new y i
        × (judge_reply (with_expected (plan_file old p) e) y ≡ answer (record { cancelled = parities (words_of new) y; outcome = fails_at i })))
    revised_fails_exactly y w =
        subst
        (λ (f : List ℕ).
        ((d : Finding) (i : ℕ) → judge_reply f y ≡ answer d → d.outcome ≡ fails_at i → (Explained new y → ⊥) × FirstDisagrees new y i)
        × ((Explained new y → ⊥)
        → (i : ℕ) × FirstDisagrees new y i
        × (judge_reply f y ≡ answer (record { cancelled = parities (words_of new) y; outcome = fails_at i }))))
        (sym revised_file) (fails_exactly new k l (parts_of new) y revised_planned w)
