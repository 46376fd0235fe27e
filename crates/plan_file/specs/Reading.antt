-- The plan reader. Document 01: "The plan reader is lent a word list, and there 18 comes after 22." It answers with m, q and
-- the expected bits as one word, and fills the front of the list.
--
--   plan_read_tests plan room   the numbers 19 to 22, and then 18, for a lent list of `room` places
--   plan_file_reply plan room   its reply
--   said a                    the paper's reading of what the reader hands back
use Rattle.std.specs.Prelude.{List, [], ◌∷◌, ◌++◌, ℕ, ltb, Result}
use Rattle.word.specs.Reply.{Test, ◌when◌, Reply, reply}
use Rattle.plan_file.specs.Layout.{file_count}
use Rattle.plan_file.specs.Checking.{plan_file_tests, PlanFileParts, file_parts, said_checked}
use Rattle.refusals.specs.declared.Refusal.{Refusal}
use Rattle.plan_file.specs.declared.PlanHead.{PlanHead}

unfoldable pub plan_read_tests : List ℕ → ℕ → List Test
plan_read_tests plan room = plan_file_tests plan ++ 18 when ltb room (file_count plan) ∷ []

unfoldable pub plan_file_reply : List ℕ → ℕ → Reply PlanFileParts
plan_file_reply plan room = reply (plan_read_tests plan room) (file_parts plan)

abbrev pub said : Result PlanHead Refusal → Reply PlanFileParts
said = said_checked
