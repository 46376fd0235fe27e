-- The text always fits into 4,096 bytes (text_fits), and the text that each way out of the plan printer makes. Assumes nothing.
use mathlib.Core.Path.{◌≡◌, refl, sym, ap, ap₂, ◌∙◌}
use mathlib.Core.List.{List, ◌++◌}
use Prim.Native.Nat.{ℕ, zero, suc, ◌+◌, ◌≤◌}
use native.Mathlib.Omega.{arith}
use lib.ListN.{length, take, length-append}
use Rattle.word.specs.Reply.{Reply, answer, refusal, replied, first_of, front, lent}
use Rattle.set_layout.specs.Layout.{width_of, chains_of, slices_of}
use Rattle.signatures.specs.Sets.{unknowns_of}
use Rattle.kept_words.specs.Working.{words_of}
use Rattle.planner.specs.Planning.{PlanParts, plan_tests, parts_of, plan_reply}
use Rattle.std.specs.Prelude.{Err}
use Rattle.refusals.specs.declared.Refusal.{Refusal}
use Rattle.refusals.specs.Refusals.{number}
use Rattle.set_file.specs.Reading.{set_reply}
use Rattle.planner.proofs.NumberLaws.{words_few, planned_accepted}
use Rattle.planner.proofs.CallLaws.{Ends, ends_unread, planned_parts, words_front}
use Rattle.text.specs.Text.{Put}
use Rattle.text.proofs.PutLaws.{put_then, put_front}
use Rattle.plan_lines.specs.Lines.{set_line, word_lines, end_line, refused_line}
use Rattle.plan_lines.proofs.LineLaws.{length_set_line, length_word_lines, length_end_line, length_refused_line}
use Rattle.plan_text.specs.PlanText.{text_of, plan_text}

-- ---- the text fits

-- up to 64 words, whose indices have two digits at most
plan_lines_fit : (m n s u i : ℕ) (ws : List ℕ) (e q : ℕ) → i + length ws ≤ 100 → length ws ≤ 64 → length (set_line m n s u ++ word_lines i ws e ++ end_line q) ≤ 4096
plan_lines_fit m n s u i ws e q hi h =
    simp length-append (omega (arith, length_set_line m n s u, length_word_lines i ws e hi, length_end_line q))

-- the text of a reply whose first number is n; 0 stands for none
number_fits : (set : List ℕ) (k l n : ℕ) → first_of (plan_tests set k l) ≡ n → length (text_of (replied n (parts_of set)) set) ≤ 4096
number_fits set k l zero e =
    let few : length (words_of set) ≤ 64 = words_few set (planned_accepted set k l e) in
    plan_lines_fit _ _ _ _ _ (words_of set) _ _ (omega (arith, few)) few
number_fits set k l (suc n) e = omega (arith, length_refused_line (suc n))

pub text_fits : (set : List ℕ) (k l : ℕ) → length (plan_text set k l) ≤ 4096
unfolding plan_text plan_reply
text_fits set k l = number_fits set k l (first_of (plan_tests set k l)) refl

-- ---- the ways out

-- what the printer makes of the output l: the length r of the text, and l'
abbrev pub Prints : List ℕ → ℕ → ℕ → List ℕ → ℕ → List ℕ → Type 0
Prints set k w l r l' = (r ≡ length (plan_text set k w)) × (l' ≡ front (plan_text set k w) l)

-- the whole text vs is put from the output's start
prints : (set : List ℕ) (k w : ℕ) (l vs : List ℕ) (r : ℕ) (l' : List ℕ) → vs ≡ plan_text set k w → length l ≡ 4096 → Put l 0 vs r l' → Prints set k w l r l'
prints set k w l vs r l' text long p =
    let put = put_front vs p (omega (arith, ap length text, text_fits set k w)) in
    (put.0 ∙ ap length text, put.1 ∙ ap (λ (x : List ℕ). front x l) text)

-- planning refuses, and has left the output as it was
pub prints_refused : (set : List ℕ) (k w : ℕ) (l l₁ : List ℕ) (n r : ℕ) (l' : List ℕ) → refusal n ≡ plan_reply set k w → l₁ ≡ l → length l ≡ 4096
    → Put l₁ 0 (refused_line n) r l' → Prints set k w l r l'
unfolding plan_text
prints_refused set k w l l₁ n r l' h same long put =
    prints set k w l (refused_line n) r l' (ap (λ (x : Reply PlanParts). text_of x set) h) long (rw same at put)

-- the set reader refuses the set: so does planning
pub unread : (set cs ws : List ℕ) (e : Refusal) → refusal (number e) ≡ set_reply set → Ends set cs ws (Err e) cs ws
unread set cs ws e h = ends_unread set cs ws (Err e) e refl h

-- a plan

module _ (set cs ws : List ℕ) (m q e : ℕ) (plan : answer (record { m = m; q = q; expected = e }) ≡ plan_reply set (length cs) (length ws)) where
  planned : plan_reply set (length cs) (length ws) ≡ answer (record { m = m; q = q; expected = e })
  planned = sym plan

  parts : ◌≡◌ {A = PlanParts} (record { m = m; q = q; expected = e }) (parts_of set)
  parts = planned_parts set (length cs) (length ws) _ planned

  module _ (ws' : List ℕ) (ew : ws' ≡ lent (plan_reply set (length cs) (length ws)) (words_of set) ws) where
    pub printed_words : (q ≤ length ws') × (take q ws' ≡ words_of set)
    printed_words = words_front set ws ws' (length cs) _ planned ew

    -- n, s and the number of unknown cells of the set, as the printer knows them
    module _ (n s u : ℕ) (en : n ≡ chains_of set) (es : s ≡ slices_of set) (eu : u ≡ unknowns_of set) where
      lines : set_line m n s u ++ word_lines 0 (take q ws') e ++ end_line q ≡ plan_text set (length cs) (length ws)
      unfolding plan_text
      lines =
          ap₂ (λ (x y : ℕ). set_line x y s u ++ word_lines 0 (take q ws') e ++ end_line q) (ap (λ (x : PlanParts). x.m) parts) en
          ∙ ap₂ (λ (x y : ℕ). set_line (width_of set) (chains_of set) x y ++ word_lines 0 (take q ws') e ++ end_line q) es eu
          ∙ ap (λ (x : List ℕ). set_line (width_of set) (chains_of set) (slices_of set) (unknowns_of set) ++ word_lines 0 x e ++ end_line q) printed_words.1
          ∙ sym (ap (λ (x : Reply PlanParts). text_of x set) planned)

      pub prints_plan : (l : List ℕ) (r₁ : ℕ) (l₁ : List ℕ) (r₂ : ℕ) (l₂ : List ℕ) (r : ℕ) (l' : List ℕ) → length l ≡ 4096
          → Put l 0 (set_line m n s u) r₁ l₁ → Put l₁ r₁ (word_lines 0 (take q ws') e) r₂ l₂ → Put l₂ r₂ (end_line q) r l'
          → Prints set (length cs) (length ws) l r l'
      prints_plan l r₁ l₁ r₂ l₂ r l' long p₁ p₂ p₃ =
          prints set (length cs) (length ws) l (set_line m n s u ++ word_lines 0 (take q ws') e ++ end_line q) r l' lines long (put_then (put_then p₁ p₂) p₃)
