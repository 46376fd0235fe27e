-- The plan file of a content that the writer takes is judged by its words and expected bits. And a verdict depends on the signature
-- through its parities alone. Assumes nothing.
use mathlib.Core.Path.{◌≡◌, sym, ap, ◌∙◌, subst}
use mathlib.Core.Bool.{false}
use mathlib.Core.List.{List, [], ◌∷◌}
use Prim.Native.Nat.{ℕ, ◌^◌, ◌<◌}
use native.Mathlib.Nat.{le_refl}
use lib.Bits.{bit_xor}
use lib.ListN.{length}
use Rattle.word.specs.Word.{beyond}
use Rattle.word.specs.Parities.{parities}
use Rattle.word.specs.Reply.{◌when◌, answer}
use Rattle.word.proofs.WordLaws.{not_beyond}
use Rattle.plan_file.specs.Layout.{file_width, file_words, file_expected}
use Rattle.plan_writer.specs.Writing.{PlanContent, plan_bytes}
use Rattle.plan_file.proofs.Laws.{sound_plan, taken_reply}
use Rattle.plan_writer.proofs.Parts.{Content, written_width, written_words, written_expected, written_taken}
use Rattle.judge.specs.Verdict.{Outcome, verdict, Finding, judge_tests, judge_reply}
use Rattle.judge.proofs.Verdicts.{Found, none, first, found}

module _ (k : PlanContent) (c : Content k) where
  -- judging answers by its words and its expected bits
  pub content_judged : (y : ℕ) → y < 2 ^ k.m
      → judge_reply (plan_bytes k) y ≡ answer (record { cancelled = parities k.words y; outcome = verdict k.words k.expected y })
  unfolding judge_reply judge_tests
  content_judged y h =
      let within : beyond (file_width (plan_bytes k)) y ≡ false = rw (written_width k c) (not_beyond k.m y h) in
      let same
      : ◌≡◌ {A = Finding} (record { cancelled = parities (file_words (plan_bytes k)) y; outcome = verdict (file_words (plan_bytes k)) (file_expected (plan_bytes k)) y }) (record { cancelled = parities k.words y; outcome = verdict k.words k.expected y }) =
      rw (written_words k c, written_expected k c)
      in
      (sound_plan (plan_bytes k) (23 when beyond (file_width (plan_bytes k)) y ∷ []) _ _ (taken_reply (plan_bytes k) (written_taken k c))).2
      ∙ rw within (ap answer same)

-- ---- verdicts

found_alike : (i k d : ℕ) (o o' : Outcome) → Found i k d o → Found i k d o' → o ≡ o'
found_alike i k d o o' (none z p) (none z' p') = p ∙ sym p'
found_alike i k d o o' (none z p) (first n f) = absurd (n z)
found_alike i k d o o' (first n f) (none z p) = absurd (n z)
found_alike i k d o o' (first n f) (first n' f') = f ∙ sym f'

-- signatures with the same parities get the same verdict
pub same_verdict : (ws : List ℕ) (e y z : ℕ) → e < 2 ^ length ws → parities ws y ≡ parities ws z → verdict ws e y ≡ verdict ws e z
same_verdict ws e y z l h =
    found_alike 0 (length ws) (bit_xor (parities ws z) e) (verdict ws e y) (verdict ws e z)
    (subst (λ (x : ℕ). Found 0 (length ws) (bit_xor x e) (verdict ws e y)) h (found ws (length ws) e y (le_refl (length ws)) l))
    (found ws (length ws) e z (le_refl (length ws)) l)
