-- The plan file of a content has the content's parts, and a plan that is taken is the plan file of its own:
--
--   Content, content   what is known of a content that the writer takes
--   content_taken      .. and the writer takes a content of which it is known, where there is room
--   written_width      the plan file of a content has its m
--   written_count      .. as many words
--   written_words      .. its words
--   written_expected   .. its expected bits
--   written_taken      .. and meets no number
--   content_read_lem       .. and the reader answers for it with them
--   plan_of_content    a plan that meets no number is the plan file of its m, its words and its expected bits
-- Assumes nothing.
use mathlib.Core.Path.{◌≡◌, refl, sym, ap, ap₂, ◌∙◌, subst}
use mathlib.Core.Bool.{true, false}
use mathlib.Core.List.{List, [], ◌++◌, append_assoc, append-nil}
use Prim.Native.Nat.{ℕ, ◌*◌, ◌^◌, ◌<◌, ◌≤◌}
use native.Mathlib.Nat.{lt_of_lt_of_le}
use native.Mathlib.Omega.{arith}
use borrow.Author.Tests.{le-ltb, not-false}
use lib.Dec.{ltb}
use lib.ListN.{length, take, drop, get_or, length-append, length-drop}
use lib.Pow.{pow_mono}
use lib.Seq.{take_all}
use Rattle.word.specs.Word.{bad_width, beyond}
use Rattle.numbers.specs.Bytes.{number_at, count_at, words_at, bytes_of, word_bytes}
use Rattle.word.specs.Reply.{answer, first_of}
use Rattle.numbers.proofs.ByteLaws.{bytes_of_length, length_word_bytes}
use Rattle.numbers.proofs.FileLaws.{number_back, words_back, pow_bytes, number_bytes, words_bytes, part_joins}
use Rattle.word.proofs.TestLaws.{replied_answer}
use Rattle.word.proofs.WordLaws.{good_width, within, not_beyond}
use Rattle.combinations.specs.Reduced.{is_reduced}
use Rattle.combinations.proofs.Theorems.{reduced_below}
use Rattle.reduced_list.specs.WordCount.{bad_word_count}
use Rattle.reduced_list.proofs.CountLaws.{good_count, not_bad_count}
use Rattle.plan_file.specs.Layout.{again_at, bit_bytes, bits_at, plan_length, file_width, file_count, file_words, file_again, file_expected}
use Rattle.plan_writer.specs.Writing.{PlanContent, plan_content, word_count, plan_bytes, plan_write_tests, plan_write_reply}
use Rattle.plan_file.specs.Checking.{PlanFileParts, file_parts}
use Rattle.plan_file.specs.Reading.{plan_file_reply}
use Rattle.plan_file.proofs.Laws.{Taken, taken_read}
use Rattle.plan_file.proofs.WordPlaces.{plan_words_length}
use Rattle.plan_writer.proofs.WriteLaws.{none_of_write, length_plan_bytes}

-- ---- a content that the writer takes

pub record Content (k : PlanContent) : Type 0 where
  pub width_positive : 1 ≤ k.m
  pub width_most : k.m ≤ 64
  pub count_positive : 1 ≤ word_count k
  pub count_most : word_count k ≤ k.m
  pub reduced : is_reduced k.m k.words ≡ true
  pub expected_inside : k.expected < 2 ^ word_count k

pub content : (k : PlanContent) (room n : ℕ) → plan_write_reply k room ≡ answer n → Content k
unfolding plan_write_reply
content k room n h =
    let none = none_of_write k room (replied_answer (first_of (plan_write_tests k room)) (plan_length (word_count k)) n h).0 in
    record {
      width_positive = (good_width k.m none.width).0;
      width_most = (good_width k.m none.width).1;
      count_positive = (good_count k.m (word_count k) none.count).0;
      count_most = (good_count k.m (word_count k) none.count).1;
      reduced = not-false _ none.words;
      expected_inside = within (word_count k) k.expected none.bits;
    }

pub content_taken : (k : PlanContent) (room : ℕ) → Content k → plan_length (word_count k) ≤ room
    → plan_write_reply k room ≡ answer (plan_length (word_count k))
unfolding plan_write_reply plan_write_tests bad_width
content_taken k room c h =
    let a1 : ltb k.m 1 ≡ false = le-ltb k.m 1 c.width_positive in
    let a2 : ltb 64 k.m ≡ false = le-ltb 64 k.m c.width_most in
    let b : bad_word_count k.m (word_count k) ≡ false = not_bad_count k.m (word_count k) c.count_positive c.count_most in
    let d : beyond (word_count k) k.expected ≡ false = not_beyond (word_count k) k.expected c.expected_inside in
    let e : ltb room (plan_length (word_count k)) ≡ false = le-ltb room (plan_length (word_count k)) h in
    rw (a1, a2, b, c.reduced, d, e)

-- ---- the parts of the file that was written

-- q bits fit their bytes
bits_fit : (q e : ℕ) → e < 2 ^ q → e < 256 ^ bit_bytes q
bits_fit q e h =
    let most : q ≤ 8 * bit_bytes q = omega arith in
    rw (pow_bytes (bit_bytes q)) (lt_of_lt_of_le h (pow_mono most))

module _ (k : PlanContent) (c : Content k) where
  abbrev q : ℕ
  q = word_count k

  abbrev bits : List ℕ
  bits = bytes_of (bit_bytes q) k.expected

  count_fits : q < 256 ^ 2
  count_fits = omega (arith, c.count_most, c.width_most)

  words_fit : (i : ℕ) → get_or k.words i 0 < 256 ^ 8
  words_fit i = lt_of_lt_of_le (reduced_below k.m k.words c.reduced i) (pow_mono c.width_most)

  pub written_width : file_width (plan_bytes k) ≡ k.m
  unfolding plan_bytes
  written_width = number_back 2 k.m [] _ 0 refl (omega (arith, c.width_most))

  pub written_count : file_count (plan_bytes k) ≡ q
  unfolding plan_bytes
  written_count = number_back 2 q (bytes_of 2 k.m) _ 2 (bytes_of_length 2 k.m) count_fits

  start_long : length (bytes_of 2 k.m ++ bytes_of 2 q) ≡ 4
  start_long = length-append (bytes_of 2 k.m) (bytes_of 2 q) ∙ omega (arith, bytes_of_length 2 k.m, bytes_of_length 2 q)

  words_long : length (bytes_of 2 k.m ++ bytes_of 2 q ++ word_bytes k.words) ≡ again_at q
  words_long =
      length-append (bytes_of 2 k.m ++ bytes_of 2 q) (word_bytes k.words) ∙ omega (arith, start_long, length_word_bytes k.words)

  again_long : length (bytes_of 2 k.m ++ bytes_of 2 q ++ word_bytes k.words ++ bytes_of 2 q) ≡ bits_at q
  again_long =
      length-append (bytes_of 2 k.m ++ bytes_of 2 q ++ word_bytes k.words) (bytes_of 2 q) ∙ omega (arith, words_long, bytes_of_length 2 q)

  pub written_words : file_words (plan_bytes k) ≡ k.words
  unfolding plan_bytes
  written_words =
      ap (words_at (plan_bytes k) 4) written_count
      ∙ ap (λ (s : List ℕ). words_at s 4 q) (sym (append_assoc (bytes_of 2 k.m) (bytes_of 2 q) _))
      ∙ words_back k.words (bytes_of 2 k.m ++ bytes_of 2 q) _ 4 start_long words_fit

  written_again : file_again (plan_bytes k) ≡ q
  unfolding plan_bytes
  written_again =
      ap (λ (n : ℕ). count_at (plan_bytes k) (again_at n)) written_count
      ∙ ap (λ (s : List ℕ). count_at s (again_at q))
      (sym (append_assoc (bytes_of 2 k.m) (bytes_of 2 q) _) ∙ sym (append_assoc (bytes_of 2 k.m ++ bytes_of 2 q) (word_bytes k.words) _))
      ∙ number_back 2 q (bytes_of 2 k.m ++ bytes_of 2 q ++ word_bytes k.words) bits (again_at q) words_long count_fits

  pub written_expected : file_expected (plan_bytes k) ≡ k.expected
  unfolding plan_bytes
  written_expected =
      ap (λ (n : ℕ). number_at (bit_bytes n) (plan_bytes k) (bits_at n)) written_count
      ∙ ap (λ (s : List ℕ). number_at (bit_bytes q) s (bits_at q))
      (sym (append_assoc (bytes_of 2 k.m) (bytes_of 2 q) _) ∙ sym (append_assoc (bytes_of 2 k.m ++ bytes_of 2 q) (word_bytes k.words) _)
      ∙ sym (append_assoc (bytes_of 2 k.m ++ bytes_of 2 q ++ word_bytes k.words) (bytes_of 2 q) bits)
      ∙ ap (λ (l : List ℕ). bytes_of 2 k.m ++ bytes_of 2 q ++ word_bytes k.words ++ bytes_of 2 q ++ l) (sym (append-nil bits)))
      ∙ number_back (bit_bytes q) k.expected (bytes_of 2 k.m ++ bytes_of 2 q ++ word_bytes k.words ++ bytes_of 2 q) [] (bits_at q) again_long
      (bits_fit q k.expected c.expected_inside)

  pub written_taken : Taken (plan_bytes k)
  written_taken =
      record {
        width_positive = omega (arith, written_width, c.width_positive);
        width_most = omega (arith, written_width, c.width_most);
        count_positive = omega (arith, written_count, c.count_positive);
        count_most = omega (arith, written_width, written_count, c.count_most);
        reduced = ap₂ is_reduced written_width written_words ∙ c.reduced;
        again = written_again ∙ sym written_count;
        exact = length_plan_bytes k ∙ ap plan_length (sym written_count);
        expected_inside =
            subst (λ (x : ℕ). x < 2 ^ file_count (plan_bytes k)) (sym written_expected)
            (subst (λ (n : ℕ). k.expected < 2 ^ n) (sym written_count) c.expected_inside);
      }

  pub content_read_lem : (room : ℕ) → word_count k ≤ room
      → plan_file_reply (plan_bytes k) room ≡ answer (record { m = k.m; q = word_count k; expected = k.expected })
  content_read_lem room h =
      let same : ◌≡◌ {A = PlanFileParts} (file_parts (plan_bytes k)) (record { m = k.m; q = word_count k; expected = k.expected }) =
      rw (written_expected, written_width, written_count)
      in
      taken_read (plan_bytes k) room (written_taken) (omega (arith, written_count)) ∙ ap answer same

-- ---- a plan of bytes, part after part

pub plan_of_content : (plan : List ℕ) → ((i : ℕ) → get_or plan i 0 < 256) → Taken plan
    → plan_bytes (plan_content (file_width plan) (file_words plan) (file_expected plan)) ≡ plan
unfolding plan_bytes
plan_of_content plan small t =
    let q = file_count plan in
    let long : length plan ≡ plan_length q = t.exact in
    let same : length (file_words plan) ≡ q = plan_words_length plan in
    let p1 : bytes_of 2 (file_width plan) ≡ take 2 (drop 0 plan) = number_bytes plan small 2 0 (omega arith) in
    let p2 : bytes_of 2 (length (file_words plan)) ≡ take 2 (drop 2 plan) = ap (bytes_of 2) same ∙ number_bytes plan small 2 2 (omega arith) in
    let p3 : word_bytes (file_words plan) ≡ take (8 * q) (drop 4 plan) = words_bytes plan small q 4 (omega arith) in
    let p4 : bytes_of 2 (length (file_words plan)) ≡ take 2 (drop (again_at q) plan) =
    ap (bytes_of 2) (same ∙ sym t.again) ∙ number_bytes plan small 2 (again_at q) (omega arith)
    in
    let p5 : bytes_of (bit_bytes (length (file_words plan))) (file_expected plan) ≡ take (bit_bytes q) (drop (bits_at q) plan) =
    ap (λ (n : ℕ). bytes_of (bit_bytes n) (file_expected plan)) same ∙ number_bytes plan small (bit_bytes q) (bits_at q) (omega arith)
    in
    let rest : length (drop (bits_at q) plan) ≤ bit_bytes q = omega (arith, length-drop (bits_at q) plan) in
    let j5 : take (bit_bytes q) (drop (bits_at q) plan) ≡ drop (bits_at q) plan = take_all (bit_bytes q) (drop (bits_at q) plan) rest in
    let j4 : take 2 (drop (again_at q) plan) ++ drop (bits_at q) plan ≡ drop (again_at q) plan = part_joins plan (again_at q) 2 (bits_at q) (omega arith) in
    let j3 : take (8 * q) (drop 4 plan) ++ drop (again_at q) plan ≡ drop 4 plan = part_joins plan 4 (8 * q) (again_at q) (omega arith) in
    let j2 : take 2 (drop 2 plan) ++ drop 4 plan ≡ drop 2 plan = part_joins plan 2 2 4 (omega arith) in
    let j1 : take 2 (drop 0 plan) ++ drop 2 plan ≡ drop 0 plan = part_joins plan 0 2 2 (omega arith) in
    ap₂ (λ (a b : List ℕ). a ++ b) p1
    (ap₂ (λ (a b : List ℕ). a ++ b) p2
    (ap₂ (λ (a b : List ℕ). a ++ b) p3 (ap₂ (λ (a b : List ℕ). a ++ b) p4 (p5 ∙ j5) ∙ j4) ∙ j3) ∙ j2)
    ∙ j1
