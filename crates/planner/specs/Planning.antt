-- Planning. Document 01: "Planning is lent a column list and a word list and answers with m, q and the expected bits as one
-- word, bit i for word i". Document 02, No. 3: "Words are to come from a working list of 64 places, with the same answer. Refusal 14 in
-- planning now means fewer than 64 places. Past 14, those 64 hold zero when the call ends, accepted or not." Document 02, No. 7: "planning
-- needs one more working place for each named symbol, counted in its 14 and zero at the end also."
-- And the call that gives the words alone. Document 02, No. 2: "Planning is to be split in two: one call gives the words, the other the
-- expected bits for a set and its words." It meets planning's numbers and is lent planning's lists; the other call is expectation/specs/Expecting. 16 is none of the
-- numbers: document 02, No. 4 (proofs/Sixteen).
--
--   expected_of set          the expected bits of a set's own words
--   earlier_tests set k      the numbers that planning meets before 17, in order, for k working places: the set's and 14. Document 01: "an
--                           earlier number is one that stands before 17 in that call"
--   working_left set l       the working list l at exit
--   plan_tests set k l       the numbers that planning meets, in order, for k working places and l word places
--   WordParts               what the call that gives the words answers: m and q
--   words_reply set k l      its reply
--   said_worded w            the paper's reading of what it hands back
--   said_made k              .. of what both calls make
--   PlanParts               what planning answers
--   plan_reply set k l       its reply
--   said p                  the paper's reading of what planning hands back
use Rattle.std.specs.Prelude.{List, [], ◌∷◌, ◌++◌, ℕ, ltb, length, Result}
use Rattle.word.specs.Reply.{Test, ◌when◌, Reply, reply}
use Rattle.combinations.specs.Combination.{only_empty}
use Rattle.set_layout.specs.Layout.{width_of}
use Rattle.signatures.specs.Sets.{columns_of}
use Rattle.set_file.specs.Reading.{set_tests}
use Rattle.kept_words.specs.Working.{words_of, working_test, working_after}
use Rattle.expectation.specs.Expecting.{expected_for}
use Rattle.refusals.specs.declared.Refusal.{Refusal}
use Rattle.refusals.specs.Refusals.{replied_by}
use Rattle.planner.specs.declared.Words.{Words}
use Rattle.planner.specs.declared.Made.{Made}
use Rattle.planner.specs.declared.Planned.{Planned}

unfoldable pub expected_of : List ℕ → ℕ
expected_of set = expected_for set (words_of set)

-- the set's numbers, then 14
unfoldable pub earlier_tests : List ℕ → ℕ → List Test
earlier_tests set k = set_tests set ++ working_test set k ∷ []

abbrev pub working_left : List ℕ → List ℕ → List ℕ
working_left set l = working_after (earlier_tests set (length l)) set l

-- .. then 17 and 18
unfoldable pub plan_tests : List ℕ → ℕ → ℕ → List Test
plan_tests set k l =
    earlier_tests set k
    ++ 17 when only_empty (width_of set) (columns_of set)
    ∷ 18 when ltb l (length (words_of set))
    ∷ []

pub record WordParts : Type 0 where
  pub m : ℕ
  pub q : ℕ

abbrev pub word_parts_of : List ℕ → WordParts
word_parts_of set = record { m = width_of set; q = length (words_of set) }

unfoldable pub words_reply : List ℕ → ℕ → ℕ → Reply WordParts
words_reply set k l = reply (plan_tests set k l) (word_parts_of set)

abbrev pub said_worded : Result Words Refusal → Reply WordParts
said_worded = replied_by (λ (w : Words). record { m = w.m; q = w.q })

abbrev pub said_made : Result Made Refusal → Reply WordParts
said_made = replied_by (λ (k : Made). record { m = k.taken.register.m; q = k.q })

pub record PlanParts : Type 0 where
  pub m : ℕ
  pub q : ℕ
  pub expected : ℕ

abbrev pub parts_of : List ℕ → PlanParts
parts_of set = record { m = width_of set; q = length (words_of set); expected = expected_of set }

unfoldable pub plan_reply : List ℕ → ℕ → ℕ → Reply PlanParts
plan_reply set k l = reply (plan_tests set k l) (parts_of set)

abbrev pub said : Result Planned Refusal → Reply PlanParts
said = replied_by (λ (p : Planned). record { m = p.m; q = p.q; expected = p.expected })
