-- 17 "from any call that makes words of a set" (document 01): a call that begins with planning, and whose later parts never give 17,
-- gives 17 exactly when planning does.
--
--   seventeen_exactly   .. so it gives 17 only when every signature of the register's width is explained, and always then where no
--                       number before 17 applies
--   planned_seventeen   planning itself
--   words_seventeen     the call that gives the words alone
--   expected_never      the call that gives the expected bits makes no words, and never gives 17
--   record_seventeen    judging a record by the plan of its set; each of two records
--   text_seventeen      the plan printer's text, for any working places and word places: its line `refused 17`
-- Assumes nothing.
use mathlib.Core.Path.{◌≡◌, refl, sym, ap, ◌∙◌}
use mathlib.Core.List.{List}
use Prim.Native.Nat.{ℕ, ◌^◌, ◌<◌}
use native.Mathlib.Omega.{arith}
use Rattle.word.specs.Reply.{Reply, answer, refusal, first_of, after}
use Rattle.word.proofs.ReplyLaws.{after_after, after_number}
use Rattle.word.proofs.TestLaws.{never}
use Rattle.set_layout.specs.Layout.{width_of}
use Rattle.set_file.specs.Reading.{set_tests}
use Rattle.signatures.specs.Sets.{Explained}
use Rattle.signing.specs.Signing.{sign_tests, sign_reply}
use Rattle.expectation.specs.Expecting.{word_tests, expect_tests, expect_reply}
use Rattle.kept_words.specs.Working.{words_of}
use Rattle.planner.specs.Planning.{WordParts, words_reply, PlanParts, earlier_tests, plan_reply}
use Rattle.planner.proofs.InARow.{words_of_plan}
use Rattle.plan_file.specs.Checking.{plan_file_tests}
use Rattle.plan_writer.specs.Writing.{PlanContent, plan_content, plan_write_tests, plan_write_reply}
use Rattle.judge.specs.Verdict.{judge_tests, judge_reply}
use Rattle.plan_lines.specs.Lines.{refused_line}
use Rattle.plan_text.specs.PlanText.{plan_text}
use Rattle.plan_text.proofs.RefusalLaws.{refused_text}
use Rattle.guarantee.specs.AtWork.{made_reply, plan_of, signed_reply, record_reply}
use Rattle.guarantee.proofs.Theorems.{seventeen_explained, explained_seventeen}

-- ---- 17

module _ (set : List ℕ) (k l : ℕ) {B : Type 0} (f : PlanParts → Reply B) (d : (p : PlanParts) → f p ≡ refusal 17 → ⊥) where
  pub seventeen_exactly : (after (plan_reply set k l) f ≡ refusal 17 → (y : ℕ) → y < 2 ^ width_of set → Explained set y)
      × (first_of (earlier_tests set k) ≡ 0 → ((y : ℕ) → y < 2 ^ width_of set → Explained set y) → after (plan_reply set k l) f ≡ refusal 17)
  seventeen_exactly = (
    (λ h. seventeen_explained set k l (after_number (plan_reply set k l) f 17 d h)),
    (λ h e. ap (λ (r : Reply PlanParts). after r f) (explained_seventeen set k l h e)),
  )

pub planned_seventeen : (set : List ℕ) (k l : ℕ)
    → (plan_reply set k l ≡ refusal 17 → (y : ℕ) → y < 2 ^ width_of set → Explained set y)
    × (first_of (earlier_tests set k) ≡ 0 → ((y : ℕ) → y < 2 ^ width_of set → Explained set y) → plan_reply set k l ≡ refusal 17)
planned_seventeen set k l = (seventeen_explained set k l, explained_seventeen set k l)

-- the call that gives the words is planning without its last part
answered_never : (p : PlanParts) → ◌≡◌ {A = Reply WordParts} (answer (record { m = p.m; q = p.q })) (refusal 17) → ⊥
answered_never p h = let z : ◌≡◌ {A = ℕ} 0 1 = cc in omega arith

pub words_seventeen : (set : List ℕ) (k l : ℕ)
    → (words_reply set k l ≡ refusal 17 → (y : ℕ) → y < 2 ^ width_of set → Explained set y)
    × (first_of (earlier_tests set k) ≡ 0 → ((y : ℕ) → y < 2 ^ width_of set → Explained set y) → words_reply set k l ≡ refusal 17)
words_seventeen set k l =
    let both = seventeen_exactly set k l (λ (p : PlanParts). answer (record { m = p.m; q = p.q })) answered_never in
    ((λ h. both.0 (sym (words_of_plan set k l) ∙ h)), (λ h e. words_of_plan set k l ∙ both.1 h e))

-- the call that gives the expected bits of words that are handed to it
pub expected_never : (set ws : List ℕ) → expect_reply set ws ≡ refusal 17 → ⊥
unfolding expect_reply expect_tests word_tests set_tests
expected_never set ws = never 17 (expect_tests set ws) _ (λ (z : 17 ≡ 0). omega arith) refl

-- ---- judging a record by the plan of its set

written_never : (c : PlanContent) (room : ℕ) → plan_write_reply c room ≡ refusal 17 → ⊥
unfolding plan_write_reply plan_write_tests
written_never c room = never 17 (plan_write_tests c room) _ (λ (z : 17 ≡ 0). omega arith) refl

signed_never : (set r : List ℕ) → sign_reply set r ≡ refusal 17 → ⊥
unfolding sign_reply sign_tests set_tests
signed_never set r = never 17 (sign_tests set r) _ (λ (z : 17 ≡ 0). omega arith) refl

judged_never : (plan : List ℕ) (y : ℕ) → judge_reply plan y ≡ refusal 17 → ⊥
unfolding judge_reply judge_tests plan_file_tests
judged_never plan y = never 17 (judge_tests plan y) _ (λ (z : 17 ≡ 0). omega arith) refl

-- signing a record and judging it gives no number that neither of them gives
pub signed_judged_never : (n : ℕ) (set r plan : List ℕ) → (sign_reply set r ≡ refusal n → ⊥) → ((y : ℕ) → judge_reply plan y ≡ refusal n → ⊥)
    → signed_reply set r plan ≡ refusal n → ⊥
unfolding signed_reply
signed_judged_never n set r plan signs judges h = signs (after_number (sign_reply set r) (λ y. judge_reply plan y) n judges h)

later_never : (set r : List ℕ) (room : ℕ) (p : PlanParts)
    → after (plan_write_reply (plan_content p.m (words_of set) p.expected) room) (λ n. signed_reply set r (plan_of set)) ≡ refusal 17 → ⊥
later_never set r room p h =
    written_never (plan_content p.m (words_of set) p.expected) room
    (after_number (plan_write_reply (plan_content p.m (words_of set) p.expected) room) (λ n. signed_reply set r (plan_of set)) 17
    (λ n. signed_judged_never 17 set r (plan_of set) (signed_never set r) (judged_never (plan_of set))) h)

pub record_seventeen : (set r : List ℕ) (k l room : ℕ)
    → (record_reply set r k l room ≡ refusal 17 → (y : ℕ) → y < 2 ^ width_of set → Explained set y)
    × (first_of (earlier_tests set k) ≡ 0 → ((y : ℕ) → y < 2 ^ width_of set → Explained set y) → record_reply set r k l room ≡ refusal 17)
unfolding record_reply made_reply
record_seventeen set r k l room =
    let both =
    seventeen_exactly set k l
    (λ (p : PlanParts). after (plan_write_reply (plan_content p.m (words_of set) p.expected) room) (λ n. signed_reply set r (plan_of set)))
    (later_never set r room)
    in
    let same = after_after (plan_reply set k l) (λ p. plan_write_reply (plan_content p.m (words_of set) p.expected) room) (λ n. signed_reply set r (plan_of set)) in
    ((λ h. both.0 (sym same ∙ h)), (λ h e. same ∙ both.1 h e))

-- ---- the plan printer's text

-- 17 from the text exactly when every signature of the register's width is explained, no earlier number applying
pub text_seventeen : (set : List ℕ) (k l : ℕ)
    → (plan_text set k l ≡ refused_line 17 → (y : ℕ) → y < 2 ^ width_of set → Explained set y)
    × (first_of (earlier_tests set k) ≡ 0 → ((y : ℕ) → y < 2 ^ width_of set → Explained set y) → plan_text set k l ≡ refused_line 17)
text_seventeen set k l =
    let told = refused_text set k l 17 (omega arith) in
    ((λ h. seventeen_explained set k l (told.0 h)), (λ h e. told.1 (explained_seventeen set k l h e)))
