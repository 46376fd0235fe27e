-- Number 16, taken out (document 02, No. 4). With it and without it every call replies the same (elimination/proofs/Sixteen and
-- planner/proofs/Sixteen, for the three calls that had it), and no call gives it, for any input.
--
--   after_sixteen_out     any call that begins with planning, and goes on with f, replies as it did with 16 among planning's numbers
--   text_sixteen_out      .. and the plan printer's text is what it was, for any working places and word places
--   X-not-16              the call X never gives 16: the set reader, the row calls, the set writer, the clock, signing, listing columns,
--                         the elimination, the words, the expected bits, planning, cutting, the plan writer, the plan reader, judging
--   made_not_16           .. nor does making the plan of a set
--   record_not_16         .. nor does judging a record by the plan of its set
--   text_not_16           .. and the text is never the line `refused 16`
-- Assumes nothing.
use mathlib.Core.Path.{◌≡◌, refl, ap}
use mathlib.Core.Bool.{true}
use mathlib.Core.List.{List}
use Prim.Native.Nat.{ℕ}
use native.Mathlib.Omega.{arith}
use Rattle.word.specs.Reply.{Test, Reply, refusal, replied, first_of, after}
use Rattle.word.proofs.ReplyLaws.{after_number}
use Rattle.word.proofs.TestLaws.{without, never}
use Rattle.register.specs.Clock.{clock_tests, clock_reply}
use Rattle.register.specs.declared.Register.{Register}
use Rattle.set_file.specs.Reading.{set_tests, set_reply}
use Rattle.slice_rows.specs.Rows.{row_tests, row_reply}
use Rattle.set_content.specs.Content.{SetContent, set_write_tests}
use Rattle.set_writer.specs.Writing.{set_write_reply}
use Rattle.signing.specs.Signing.{sign_tests, sign_reply}
use Rattle.columns.specs.Listing.{list_tests, list_reply}
use Rattle.elimination.specs.Elimination.{elimination_reply}
use Rattle.elimination.proofs.Theorems.{reply_not_16}
use Rattle.expectation.specs.Expecting.{word_tests, expect_tests, expect_reply}
use Rattle.kept_words.specs.Working.{words_of}
use Rattle.planner.specs.Planning.{earlier_tests, plan_tests, words_reply, PlanParts, plan_reply}
use Rattle.planner.proofs.Sixteen.{plan_reply_with_sixteen, plan_sixteen_out}
use Rattle.cutter.specs.Cutting.{cut_tests, cut_reply}
use Rattle.plan_file.specs.Checking.{plan_file_tests}
use Rattle.plan_file.specs.Reading.{plan_read_tests, plan_file_reply}
use Rattle.plan_writer.specs.Writing.{PlanContent, plan_content, plan_write_tests, plan_write_reply}
use Rattle.judge.specs.Verdict.{judge_tests, judge_reply}
use Rattle.plan_lines.specs.Lines.{refused_line}
use Rattle.plan_text.specs.PlanText.{text_of, plan_text}
use Rattle.plan_text.proofs.RefusalLaws.{refused_text}
use Rattle.guarantee.specs.AtWork.{made_reply, plan_of, signed_reply, record_reply}
use Rattle.guarantee.proofs.Seventeen.{signed_judged_never}

-- ---- with it and without it

pub after_sixteen_out : (set : List ℕ) (k l : ℕ) {B : Type 0} (f : PlanParts → Reply B) → after (plan_reply_with_sixteen set k l) f ≡ after (plan_reply set k l) f
after_sixteen_out set k l f = ap (λ (r : Reply PlanParts). after r f) (plan_sixteen_out set k l)

pub text_sixteen_out : (set : List ℕ) (k l : ℕ) → text_of (plan_reply_with_sixteen set k l) set ≡ plan_text set k l
unfolding plan_text
text_sixteen_out set k l = ap (λ (r : Reply PlanParts). text_of r set) (plan_sixteen_out set k l)

-- ---- no call gives it

without_16 : {A : Type 0} (ts : List Test) (a : A) → without 16 ts ≡ true → replied (first_of ts) a ≡ refusal 16 → ⊥
without_16 ts a = never 16 ts a (λ (z : 16 ≡ 0). omega arith)

pub set_not_16 : (set : List ℕ) → set_reply set ≡ refusal 16 → ⊥
unfolding set_reply set_tests
set_not_16 set = without_16 (set_tests set) _ refl

-- both row calls: the row stands at the place `at`
pub row_not_16 : (set : List ℕ) (t at : ℕ) → row_reply set t at ≡ refusal 16 → ⊥
unfolding row_reply row_tests set_tests
row_not_16 set t at = without_16 (row_tests set t) _ refl

pub set_written_not_16 : (c : SetContent) (room : ℕ) → set_write_reply c room ≡ refusal 16 → ⊥
unfolding set_write_reply set_write_tests
set_written_not_16 c room = without_16 (set_write_tests c room) _ refl

pub clocked_not_16 : (register : Register) (ws row : List ℕ) → clock_reply register ws row ≡ refusal 16 → ⊥
unfolding clock_reply clock_tests
clocked_not_16 register ws row = without_16 (clock_tests register ws row) _ refl

pub signed_not_16 : (set r : List ℕ) → sign_reply set r ≡ refusal 16 → ⊥
unfolding sign_reply sign_tests set_tests
signed_not_16 set r = without_16 (sign_tests set r) _ refl

pub listed_not_16 : (set : List ℕ) (k : ℕ) → list_reply set k ≡ refusal 16 → ⊥
unfolding list_reply list_tests set_tests
listed_not_16 set k = without_16 (list_tests set k) _ refl

pub eliminated_not_16 : (m : ℕ) (cs : List ℕ) (k : ℕ) → elimination_reply m cs k ≡ refusal 16 → ⊥
eliminated_not_16 = reply_not_16

pub worded_not_16 : (set : List ℕ) (k l : ℕ) → words_reply set k l ≡ refusal 16 → ⊥
unfolding words_reply plan_tests earlier_tests set_tests
worded_not_16 set k l = without_16 (plan_tests set k l) _ refl

pub expected_not_16 : (set ws : List ℕ) → expect_reply set ws ≡ refusal 16 → ⊥
unfolding expect_reply expect_tests word_tests set_tests
expected_not_16 set ws = without_16 (expect_tests set ws) _ refl

pub planned_not_16 : (set : List ℕ) (k l : ℕ) → plan_reply set k l ≡ refusal 16 → ⊥
unfolding plan_reply plan_tests earlier_tests set_tests
planned_not_16 set k l = without_16 (plan_tests set k l) _ refl

pub cut_not_16 : (set : List ℕ) (k room : ℕ) → cut_reply set k room ≡ refusal 16 → ⊥
unfolding cut_reply cut_tests set_tests
cut_not_16 set k room = without_16 (cut_tests set k room) _ refl

pub plan_written_not_16 : (c : PlanContent) (room : ℕ) → plan_write_reply c room ≡ refusal 16 → ⊥
unfolding plan_write_reply plan_write_tests
plan_written_not_16 c room = without_16 (plan_write_tests c room) _ refl

pub plan_read_not_16 : (plan : List ℕ) (room : ℕ) → plan_file_reply plan room ≡ refusal 16 → ⊥
unfolding plan_file_reply plan_read_tests plan_file_tests
plan_read_not_16 plan room = without_16 (plan_read_tests plan room) _ refl

pub judged_not_16 : (plan : List ℕ) (y : ℕ) → judge_reply plan y ≡ refusal 16 → ⊥
unfolding judge_reply judge_tests plan_file_tests
judged_not_16 plan y = without_16 (judge_tests plan y) _ refl

-- ---- .. nor do the calls that are made of them

pub made_not_16 : (set : List ℕ) (k l room : ℕ) → made_reply set k l room ≡ refusal 16 → ⊥
unfolding made_reply
made_not_16 set k l room h =
    planned_not_16 set k l
    (after_number (plan_reply set k l) (λ p. plan_write_reply (plan_content p.m (words_of set) p.expected) room) 16
    (λ p. plan_written_not_16 (plan_content p.m (words_of set) p.expected) room) h)

pub record_not_16 : (set r : List ℕ) (k l room : ℕ) → record_reply set r k l room ≡ refusal 16 → ⊥
unfolding record_reply
record_not_16 set r k l room h =
    made_not_16 set k l room
    (after_number (made_reply set k l room) (λ n. signed_reply set r (plan_of set)) 16
    (λ n. signed_judged_never 16 set r (plan_of set) (signed_not_16 set r) (judged_not_16 (plan_of set))) h)

pub text_not_16 : (set : List ℕ) (k l : ℕ) → plan_text set k l ≡ refused_line 16 → ⊥
text_not_16 set k l h = planned_not_16 set k l ((refused_text set k l 16 (omega arith)).0 h)
