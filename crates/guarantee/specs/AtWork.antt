-- A record judged by the plan of its set, from the set on. Document 01: "the plan made of a set is m, the words and the expected
-- bits that planning answers with for it, put into a plan file by the plan writer. A record gets what judging gives for that
-- file and the record's signature." These are four of document 01's calls in turn: each meets its own numbers in its own order,
-- and the first that refuses ends it.
--
--   made_reply set k l room      the reply of making the plan of a set: planning with k working places and l word places, then the
--                               plan writer with an output of `room` bytes; its length
--   plan_of set                  the plan made of a set
--   file_after set k l file      the lent output at exit
--   signed_reply set r plan      the reply of judging a record's signature by a plan file: signing it, then judging
--   record_reply set r k l room  the reply of judging a record by the plan of its set
use Rattle.std.specs.Prelude.{List, ℕ, length}
use Rattle.word.specs.Reply.{Reply, lent, after}
use Rattle.signing.specs.Signing.{sign_reply}
use Rattle.kept_words.specs.Working.{words_of}
use Rattle.planner.specs.Planning.{parts_of, plan_reply}
use Rattle.plan_writer.specs.Writing.{plan_content, plan_write_reply}
use Rattle.judge.specs.Verdict.{Finding, judge_reply}
use Rattle.guarantee.specs.Demand.{plan_file}

unfoldable pub made_reply : List ℕ → ℕ → ℕ → ℕ → Reply ℕ
made_reply set k l room =
    after (plan_reply set k l) (λ p. plan_write_reply (plan_content p.m (words_of set) p.expected) room)

unfoldable pub plan_of : List ℕ → List ℕ
plan_of set = plan_file set (parts_of set)

unfoldable pub file_after : List ℕ → ℕ → ℕ → List ℕ → List ℕ
file_after set k l file = lent (made_reply set k l (length file)) (plan_of set) file

unfoldable pub signed_reply : List ℕ → List ℕ → List ℕ → Reply Finding
signed_reply set r plan = after (sign_reply set r) (λ y. judge_reply plan y)

unfoldable pub record_reply : List ℕ → List ℕ → ℕ → ℕ → ℕ → Reply Finding
record_reply set r k l room = after (made_reply set k l room) (λ n. signed_reply set r (plan_of set))
