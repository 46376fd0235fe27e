-- The expected bits of a list of words. Document 02, No. 2: "Planning is to be split in two: one call gives the words, the other the
-- expected bits for a set and its words"; "Handed a list that isn't the set's own, the second call still gives each word's parity, unless
-- 20 (no words, or more than m) or 21 applies." Document 01: "The expected bit of a word is the parity of the bits it shares with the
-- signature for all unknowns 0"; document 02, No. 7: "the expected signature has all symbols 0".
--
--   expected_for set ws   the expected bits of the words ws for a set as one word, bit i for word i
--   word_tests m ws       the numbers about the words, in order, for a register of m bits: 20 and 21
--   expect_tests set ws   the numbers that the call meets, in order: the set's, then these
--   expect_reply set ws   its reply: the expected bits
--   said_expected e       the paper's reading of what the call hands back
use Rattle.std.specs.Prelude.{not, List, [], ◌∷◌, ◌++◌, ℕ, length, Result}
use Rattle.word.specs.Parities.{parities}
use Rattle.word.specs.Reply.{Test, ◌when◌, Reply, reply}
use Rattle.combinations.specs.Reduced.{is_reduced}
use Rattle.reduced_list.specs.WordCount.{bad_word_count}
use Rattle.set_layout.specs.Layout.{width_of}
use Rattle.set_file.specs.Reading.{set_tests}
use Rattle.signatures.specs.Sets.{zero_signature}
use Rattle.refusals.specs.declared.Refusal.{Refusal}
use Rattle.refusals.specs.Refusals.{replied_by}

abbrev pub expected_for : List ℕ → List ℕ → ℕ
expected_for set ws = parities ws (zero_signature set)

unfoldable pub word_tests : ℕ → List ℕ → List Test
word_tests m ws =
    20 when bad_word_count m (length ws)
    ∷ 21 when not (is_reduced m ws)
    ∷ []

unfoldable pub expect_tests : List ℕ → List ℕ → List Test
expect_tests set ws = set_tests set ++ word_tests (width_of set) ws

unfoldable pub expect_reply : List ℕ → List ℕ → Reply ℕ
expect_reply set ws = reply (expect_tests set ws) (expected_for set ws)

abbrev pub said_expected : Result ℕ Refusal → Reply ℕ
said_expected = replied_by (λ n. n)
