-- The check of a plan file, which the plan reader and judging both make: the numbers 19 to 22.
--
--   bad_plan_width plan     document 01, 19: the plan has fewer than 2 bytes, or its m isn't 1 to 64
--   bad_plan_count plan     document 01, 20: the word count is absent, 0 or above m, or the plan ends before its last word
--   bad_plan_end plan       document 01, 22: the second count is absent or isn't q, the length isn't exact, or a spare bit is set
--   Listed plan b         b says whether 21 applies, of a plan of at most 64 words that doesn't end before its last word
--   plan_file_tests plan    the numbers 19 to 22, in order
--   PlanFileParts         m, q and the expected bits of a plan file
--   file_parts plan        .. of this one
--   plan_check_reply plan   the reply of the check
--   said_checked c         the paper's reading of what the check hands back
use Rattle.std.specs.Prelude.{Bool, not, ◌||◌, List, [], ◌∷◌, ◌≡◌, ℕ, ◌≤◌, eqb, ltb, length, Result}
use Rattle.word.specs.Word.{bad_width, beyond}
use Rattle.word.specs.Reply.{Test, ◌when◌, Reply, reply}
use Rattle.combinations.specs.Reduced.{is_reduced}
use Rattle.reduced_list.specs.WordCount.{bad_word_count}
use Rattle.plan_file.specs.Layout.{again_at, bits_at, plan_length, file_width, file_count, file_words, file_again, file_expected}
use Rattle.refusals.specs.declared.Refusal.{Refusal}
use Rattle.refusals.specs.Refusals.{replied_by}
use Rattle.plan_file.specs.declared.PlanHead.{PlanHead}

unfoldable pub bad_plan_width : List ℕ → Bool
bad_plan_width plan = ltb (length plan) 2 || bad_width (file_width plan)

unfoldable pub bad_plan_count : List ℕ → Bool
bad_plan_count plan =
    ltb (length plan) 4 || bad_word_count (file_width plan) (file_count plan) || ltb (length plan) (again_at (file_count plan))

unfoldable pub bad_plan_end : List ℕ → Bool
bad_plan_end plan =
    ltb (length plan) (bits_at (file_count plan))
    || not (eqb (file_again plan) (file_count plan))
    || not (eqb (length plan) (plan_length (file_count plan)))
    || beyond (file_count plan) (file_expected plan)

abbrev pub Listed : List ℕ → Bool → Type 0
Listed plan b =
    file_count plan ≤ 64 → again_at (file_count plan) ≤ length plan → b ≡ not (is_reduced (file_width plan) (file_words plan))

unfoldable pub plan_file_tests : List ℕ → List Test
plan_file_tests plan =
    19 when bad_plan_width plan
    ∷ 20 when bad_plan_count plan
    ∷ 21 when not (is_reduced (file_width plan) (file_words plan))
    ∷ 22 when bad_plan_end plan
    ∷ []

pub record PlanFileParts : Type 0 where
  pub m : ℕ
  pub q : ℕ
  pub expected : ℕ

abbrev pub file_parts : List ℕ → PlanFileParts
file_parts plan = record { m = file_width plan; q = file_count plan; expected = file_expected plan }

unfoldable pub plan_check_reply : List ℕ → Reply PlanFileParts
plan_check_reply plan = reply (plan_file_tests plan) (file_parts plan)

abbrev pub said_checked : Result PlanHead Refusal → Reply PlanFileParts
said_checked = replied_by (λ (h : PlanHead). record { m = h.m; q = h.q; expected = h.expected })
