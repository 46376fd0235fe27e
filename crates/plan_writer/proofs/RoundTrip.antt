-- The plan writer and the plan reader, over their own replies. A file that the writer wrote is the front of the output, as many bytes
-- as it answered with; the words that the reader read are the front of the lent list, as many as it answered with.
--
--   written_file   the file that the writer wrote is the plan file of what it was handed
--   written_read   what the writer took, the reader answers with, and leaves the words in its list
--   read_written   what the reader answered with, the writer takes, and writes the plan byte for byte
--   one_file       two plans of which the reader answers with the same parts and words are one file
-- Assumes nothing.
use mathlib.Core.Path.{◌≡◌, refl, sym, ap, ap₂, ◌∙◌, subst}
use mathlib.Core.List.{List}
use Prim.Native.Nat.{ℕ, ◌^◌, ◌<◌, ◌≤◌}
use native.Mathlib.Omega.{arith}
use lib.ListN.{length, get_or, take}
use lib.Seq.{take_at}
use Rattle.word.specs.Reply.{Reply, answer, first_of, front, lent}
use Rattle.word.proofs.TestLaws.{replied_answer}
use Rattle.plan_file.specs.Layout.{plan_length, file_width, file_words, file_expected}
use Rattle.plan_file.specs.Checking.{PlanFileParts}
use Rattle.plan_file.specs.Reading.{plan_file_reply}
use Rattle.plan_file.proofs.Laws.{Taken, read_taken}
use Rattle.plan_file.proofs.WordPlaces.{plan_words_length}
use Rattle.plan_writer.specs.Writing.{PlanContent, plan_content, word_count, plan_bytes, plan_write_tests, plan_write_reply}
use Rattle.plan_writer.proofs.WriteLaws.{length_plan_bytes}
use Rattle.plan_writer.proofs.Parts.{Content, content, content_taken, written_words, content_read_lem, plan_of_content}

-- the file that the writer left in the output, of n bytes
abbrev pub file_left : PlanContent → List ℕ → ℕ → List ℕ
file_left k out n = take n (lent (plan_write_reply k (length out)) (plan_bytes k) out)

-- the q words that the reader left in the list
abbrev pub words_left : List ℕ → List ℕ → ℕ → List ℕ
words_left plan ws q = take q (lent (plan_file_reply plan (length ws)) (file_words plan) ws)

-- ---- written, then read

module _ (k : PlanContent) (out : List ℕ) (n : ℕ) (h : plan_write_reply k (length out) ≡ answer n) where
  written_length : length (plan_bytes k) ≡ n
  unfolding plan_write_reply
  written_length =
      length_plan_bytes k ∙ sym (replied_answer (first_of (plan_write_tests k (length out))) (plan_length (word_count k)) n h).1

  pub written_file : file_left k out n ≡ plan_bytes k
  unfolding front
  written_file = ap (λ (r : Reply ℕ). take n (lent r (plan_bytes k) out)) h ∙ take_at (plan_bytes k) _ n written_length

  pub written_read : (ws : List ℕ) → word_count k ≤ length ws
      → (plan_file_reply (file_left k out n) (length ws) ≡ answer (record { m = k.m; q = word_count k; expected = k.expected }))
      × (words_left (file_left k out n) ws (word_count k) ≡ k.words)
  unfolding front
  written_read ws room =
      let c : Content k = content k (length out) n h in
      let read = content_read_lem k c (length ws) room in (
        ap (λ (f : List ℕ). plan_file_reply f (length ws)) written_file ∙ read,
        ap (λ (f : List ℕ). words_left f ws (word_count k)) written_file
            ∙ ap (λ (r : Reply PlanFileParts). take (word_count k) (lent r (file_words (plan_bytes k)) ws)) read
            ∙ ap (λ (v : List ℕ). take (word_count k) (front v ws)) (written_words k c)
            ∙ take_at k.words _ (word_count k) refl,
      )

-- ---- read, then written

-- what a taken plan holds is what the writer takes
plan_content_lem : (plan : List ℕ) → Taken plan → Content (plan_content (file_width plan) (file_words plan) (file_expected plan))
plan_content_lem plan t =
    record {
      width_positive = t.width_positive;
      width_most = t.width_most;
      count_positive = omega (arith, t.count_positive, plan_words_length plan);
      count_most = omega (arith, t.count_most, plan_words_length plan);
      reduced = t.reduced;
      expected_inside = subst (λ (q : ℕ). file_expected plan < 2 ^ q) (sym (plan_words_length plan)) t.expected_inside;
    }

-- the plan file of what the reader answered with and left in the list
abbrev pub content_read : List ℕ → List ℕ → PlanFileParts → PlanContent
content_read plan ws p = plan_content p.m (words_left plan ws p.q) p.expected

module _ (plan ws : List ℕ) (p : PlanFileParts) (h : plan_file_reply plan (length ws) ≡ answer p) where
  words_read : words_left plan ws p.q ≡ file_words plan
  unfolding front
  words_read =
      ap (λ (r : Reply PlanFileParts). take p.q (lent r (file_words plan) ws)) h
      ∙ take_at (file_words plan) _ p.q
      (plan_words_length plan ∙ sym (ap (λ (x : PlanFileParts). x.q) (read_taken plan (length ws) p h).1))

  parts_read : content_read plan ws p ≡ plan_content (file_width plan) (file_words plan) (file_expected plan)
  parts_read =
      ap₂ (λ (x : PlanFileParts) (v : List ℕ). plan_content x.m v x.expected) (read_taken plan (length ws) p h).1 words_read

  pub read_bytes : ((i : ℕ) → get_or plan i 0 < 256) → plan_bytes (content_read plan ws p) ≡ plan
  read_bytes bytes = ap plan_bytes parts_read ∙ plan_of_content plan bytes (read_taken plan (length ws) p h).0

  pub read_written : ((i : ℕ) → get_or plan i 0 < 256) → (out : List ℕ) → length plan ≤ length out
      → (plan_write_reply (content_read plan ws p) (length out) ≡ answer (length plan))
      × (lent (plan_write_reply (content_read plan ws p) (length out)) (plan_bytes (content_read plan ws p)) out ≡ front plan out)
  read_written bytes out room =
      let t : Taken plan = (read_taken plan (length ws) p h).0 in
      let long : plan_length (length (file_words plan)) ≡ length plan = ap plan_length (plan_words_length plan) ∙ sym t.exact in
      let reply : plan_write_reply (content_read plan ws p) (length out) ≡ answer (length plan) =
      ap (λ (k : PlanContent). plan_write_reply k (length out)) parts_read
      ∙ content_taken _ (length out) (plan_content_lem plan t) (omega arith) ∙ ap answer long
      in (
        reply,
        ap (λ (r : Reply ℕ). lent r (plan_bytes (content_read plan ws p)) out) reply ∙ ap (λ (f : List ℕ). front f out) (read_bytes bytes),
      )

-- ---- one file for each content

pub one_file : (plan plan' ws ws' : List ℕ) (p : PlanFileParts) → ((i : ℕ) → get_or plan i 0 < 256) → ((i : ℕ) → get_or plan' i 0 < 256)
    → plan_file_reply plan (length ws) ≡ answer p → plan_file_reply plan' (length ws') ≡ answer p
    → words_left plan ws p.q ≡ words_left plan' ws' p.q → plan ≡ plan'
one_file plan plan' ws ws' p bytes bytes' h h' same =
    sym (read_bytes plan ws p h bytes) ∙ ap (λ (v : List ℕ). plan_bytes (plan_content p.m v p.expected)) same ∙ read_bytes plan' ws' p h' bytes'
