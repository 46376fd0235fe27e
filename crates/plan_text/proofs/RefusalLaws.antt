-- What the text of a refusal says.
--
--   refused_text     the text is the line of the refusal n, a number of at most 20 digits, exactly when planning's reply is that refusal
--   early_printed    a number that planning meets before 17, the set's or 14, is printed
--   never_fourteen   the plan printer, which lends more places than 64 and one for each of 256 named symbols, never prints 14
-- Assumes nothing.
use mathlib.Core.Path.{◌≡◌, refl, sym, ap, ◌∙◌}
use mathlib.Core.List.{List}
use Prim.Native.Nat.{ℕ, zero, suc, ◌^◌, ◌<◌, ◌≤◌}
use native.Mathlib.Omega.{arith}
use borrow.Author.Tests.{ltb-true}
use lib.Dec.{ltb}
use Rattle.word.specs.Reply.{Reply, refusal, replied, first_of}
use Rattle.word.proofs.ReplyLaws.{replied_refusal}
use Rattle.word.proofs.TestLaws.{first_sooner, first_of_most, refused_applies}
use Rattle.set_file.specs.Reading.{set_tests}
use Rattle.set_file.proofs.Laws.{accepted}
use Rattle.signatures.proofs.SetLaws.{named_most}
use Rattle.kept_words.specs.Working.{working_places}
use Rattle.planner.specs.Planning.{PlanParts, earlier_tests, plan_tests, parts_of, plan_reply}
use Rattle.planner.proofs.NumberLaws.{later}
use Rattle.plan_lines.specs.Lines.{refused_line}
use Rattle.plan_lines.proofs.LineLaws.{refused_line_same, set_line_no_refusal}
use Rattle.plan_text.specs.PlanText.{text_of, plan_text, printed_text}

few_numbers : (set : List ℕ) (k l : ℕ) → first_of (plan_tests set k l) ≤ 31
unfolding plan_tests earlier_tests set_tests
few_numbers set k l = first_of_most 31 (plan_tests set k l) refl

-- the text of a reply whose first number is j; 0 stands for none
number_told : (set : List ℕ) (j n : ℕ) → j ≤ 31 → n < 10 ^ 20 → text_of (replied j (parts_of set)) set ≡ refused_line n → replied j (parts_of set) ≡ refusal n
number_told set zero n hj hn h = absurd (set_line_no_refusal _ _ _ _ _ _ n h)
number_told set (suc j) n hj hn h = ap refusal (refused_line_same (suc j) n (omega arith) hn h)

pub refused_text : (set : List ℕ) (k l n : ℕ) → n < 10 ^ 20
    → (plan_text set k l ≡ refused_line n → plan_reply set k l ≡ refusal n) × (plan_reply set k l ≡ refusal n → plan_text set k l ≡ refused_line n)
unfolding plan_text plan_reply
refused_text set k l n h = (
  number_told set (first_of (plan_tests set k l)) n (few_numbers set k l) h,
  (λ e. ap (λ (r : Reply PlanParts). text_of r set) e),
)

pub early_printed : (set : List ℕ) (k l n : ℕ) → n ≡ first_of (earlier_tests set k) → (n ≡ 0 → ⊥) → plan_text set k l ≡ refused_line n
unfolding plan_text plan_reply plan_tests
early_printed set k l n e h =
    let first : n ≡ first_of (plan_tests set k l) = first_sooner (earlier_tests set k) _ n e h in
    ap (λ (r : Reply PlanParts). text_of r set)
    (ap (λ (x : ℕ). replied x (parts_of set)) (sym first) ∙ replied_refusal n (parts_of set) h)

-- 14 is a matter of places: there are fewer than 64 and one for each named symbol
fourteen_short : (set : List ℕ) (k l : ℕ) → plan_reply set k l ≡ refusal 14 → (first_of (set_tests set) ≡ 0) × (k < working_places set)
unfolding plan_reply plan_tests earlier_tests set_tests
fourteen_short set k l h =
    let both = refused_applies 14 (ltb k (working_places set)) (set_tests set) (later set l) (parts_of set) refl refl h in
    (both.0, ltb-true k (working_places set) both.1)

pub never_fourteen : (set : List ℕ) → printed_text set ≡ refused_line 14 → ⊥
unfolding printed_text
never_fourteen set h =
    let both = fourteen_short set 4096 64 ((refused_text set 4096 64 14 (omega arith)).0 h) in
    omega (arith, both.1, named_most set (accepted set both.0))
