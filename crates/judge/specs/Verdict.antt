-- Judging. Document 01: "The verdict passes if all agree, or fails and carries the index of the first word that disagrees";
-- "Judging takes a plan file and a signature, meets 19 to 23, and answers with the cancelled bits as one word, bit i for word
-- i, and the verdict."
--
--   Outcome              passes, or fails at a word's index
--   verdict_from i ws e y the verdict of the words ws, the first of which is word i, with the expected bits e and the signature y
--   verdict ws e y       document 01: the verdict
--   Finding              what judging answers: the cancelled bits and the verdict
--   judge_tests plan y    the numbers that judging meets, in order
--   judge_reply plan y    its reply
--   outcome_of v         the paper's reading of a verdict
--   said j               the paper's reading of what judging hands back
use Rattle.std.specs.Prelude.{cond, List, [], ◌∷◌, ◌++◌, ℕ, suc, eqb, Result}
use Rattle.word.specs.Word.{digit, parity, beyond}
use Rattle.word.specs.Parities.{parities}
use Rattle.word.specs.Reply.{Test, ◌when◌, Reply, reply}
use Rattle.plan_file.specs.Layout.{file_width, file_words, file_expected}
use Rattle.plan_file.specs.Checking.{plan_file_tests}
use Rattle.refusals.specs.declared.Refusal.{Refusal}
use Rattle.refusals.specs.Refusals.{replied_by}
use Rattle.judge.specs.declared.Verdict.{Verdict}
use Rattle.judge.specs.declared.Verdict.TheVariants.{Passes, Fails}
use Rattle.judge.specs.declared.Judgment.{Judgment}

pub data Outcome : Type 0 where
  passes : Outcome
  fails_at : ℕ → Outcome

unfoldable pub verdict_from : ℕ → List ℕ → ℕ → ℕ → Outcome
verdict_from i [] e y = passes
verdict_from i (w ∷ ws) e y = cond (eqb (parity w y) (digit i e)) (verdict_from (suc i) ws e y) (fails_at i)

abbrev pub verdict : List ℕ → ℕ → ℕ → Outcome
verdict ws e y = verdict_from 0 ws e y

pub record Finding : Type 0 where
  pub cancelled : ℕ
  pub outcome : Outcome

unfoldable pub judge_tests : List ℕ → ℕ → List Test
judge_tests plan y = plan_file_tests plan ++ 23 when beyond (file_width plan) y ∷ []

unfoldable pub judge_reply : List ℕ → ℕ → Reply Finding
judge_reply plan y =
    reply (judge_tests plan y)
    (record { cancelled = parities (file_words plan) y; outcome = verdict (file_words plan) (file_expected plan) y })

abbrev pub outcome_of : Verdict → Outcome
outcome_of Passes = passes
outcome_of (Fails i) = fails_at i

abbrev pub said : Result Judgment Refusal → Reply Finding
said = replied_by (λ (j : Judgment). record { cancelled = j.cancelled; outcome = outcome_of j.verdict })
