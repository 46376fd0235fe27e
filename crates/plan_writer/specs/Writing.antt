-- The plan writer. Document 01: "The plan writer takes m, the words and the expected bits as one word; it gives 19 for m, 20 for
-- how many words there are, 21, 22 for an expected bit at or above q, and 24."
--
--   PlanContent             what the writer is handed
--   plan_content m ws e      .. made of m, the words and the expected bits as one word
--   word_count k             how many words there are
--   plan_bytes k             the plan file of the content k
--   plan_write_tests k room   the numbers that the writer meets, in order, for an output of `room` bytes
--   plan_write_reply k room   its reply: the length of the file
--   said w                  the paper's reading of what the writer hands back
use Rattle.std.specs.Prelude.{not, List, [], ◌∷◌, ◌++◌, ℕ, ltb, length, Result}
use Rattle.word.specs.Word.{bad_width, beyond}
use Rattle.numbers.specs.Bytes.{bytes_of, word_bytes}
use Rattle.word.specs.Reply.{Test, ◌when◌, Reply, reply}
use Rattle.combinations.specs.Reduced.{is_reduced}
use Rattle.reduced_list.specs.WordCount.{bad_word_count}
use Rattle.plan_file.specs.Layout.{bit_bytes, plan_length}
use Rattle.refusals.specs.declared.Refusal.{Refusal}
use Rattle.refusals.specs.Refusals.{replied_by}

pub record PlanContent : Type 0 where
  pub m : ℕ
  pub words : List ℕ
  pub expected : ℕ

abbrev pub plan_content : ℕ → List ℕ → ℕ → PlanContent
plan_content w ws e = record { m = w; words = ws; expected = e }

abbrev pub word_count : PlanContent → ℕ
word_count k = length k.words

unfoldable pub plan_bytes : PlanContent → List ℕ
plan_bytes k =
    bytes_of 2 k.m
    ++ (bytes_of 2 (word_count k)
    ++ (word_bytes k.words ++ (bytes_of 2 (word_count k) ++ bytes_of (bit_bytes (word_count k)) k.expected)))

unfoldable pub plan_write_tests : PlanContent → ℕ → List Test
plan_write_tests k room =
    19 when bad_width k.m
    ∷ 20 when bad_word_count k.m (word_count k)
    ∷ 21 when not (is_reduced k.m k.words)
    ∷ 22 when beyond (word_count k) k.expected
    ∷ 24 when ltb room (plan_length (word_count k))
    ∷ []

unfoldable pub plan_write_reply : PlanContent → ℕ → Reply ℕ
plan_write_reply k room = reply (plan_write_tests k room) (plan_length (word_count k))

abbrev pub said : Result ℕ Refusal → Reply ℕ
said = replied_by (λ n. n)
