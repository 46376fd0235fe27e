-- What the customer's third demand speaks of, beside the fillings of a set (signatures/specs/Given and Sets). Document 01: "Two
-- records are alike in a cell if they hold the same bit there; neither need agree with the set"; "the plan made of a set is m, the
-- words and the expected bits that planning answers with for it, put into a plan file by the plan writer."
--
--   Alike set r v       the records r and v are alike in every known cell of the set
--   Obeys set r         document 02, No. 7: the record r obeys the set's ties
--   AlikeObeying set r v   .. "Two records alike in the known cells are sure of the same bits and verdict when both obey the ties"
--   plan_file set p      the plan file that the plan writer makes of planning's answer p for the set
--   with_expected file e  the plan file that the plan writer makes of the plan in a file with the expected bits e in place of its own
--   FirstDisagrees      word i of the plan is the first whose cancelled bit for the signature y isn't the expected bit
use Rattle.std.specs.Prelude.{◌≡◌, List, ℕ, ◌<◌, length, get_or}
use Rattle.word.specs.Word.{parity}
use Rattle.set_layout.specs.Layout.{chains_of, ties_of}
use Rattle.signatures.specs.Given.{ObeysTies}
use Rattle.signatures.specs.Sets.{Known, record_cells, zero_signature}
use Rattle.kept_words.specs.Working.{words_of}
use Rattle.planner.specs.Planning.{PlanParts}
use Rattle.plan_file.specs.Layout.{file_width, file_words}
use Rattle.plan_writer.specs.Writing.{plan_content, plan_bytes}

abbrev pub Alike : List ℕ → List ℕ → List ℕ → Type 0
Alike set r v =
    (t c : ℕ) → Known set t c → record_cells (chains_of set) r t c ≡ record_cells (chains_of set) v t c

abbrev pub Obeys : List ℕ → List ℕ → Type 0
Obeys set r = ObeysTies (ties_of set) (record_cells (chains_of set) r)

pub record AlikeObeying (set r v : List ℕ) : Type 0 where
  pub alike : Alike set r v
  pub first : Obeys set r
  pub second : Obeys set v

unfoldable pub plan_file : List ℕ → PlanParts → List ℕ
plan_file set p = plan_bytes (plan_content p.m (words_of set) p.expected)

unfoldable pub with_expected : List ℕ → ℕ → List ℕ
with_expected file e = plan_bytes (plan_content (file_width file) (file_words file) e)

pub record FirstDisagrees (set : List ℕ) (y i : ℕ) : Type 0 where
  pub listed : i < length (words_of set)
  pub disagrees : parity (get_or (words_of set) i 0) y ≡ parity (get_or (words_of set) i 0) (zero_signature set) → ⊥
  pub agree : (j : ℕ) → j < i → parity (get_or (words_of set) j 0) y ≡ parity (get_or (words_of set) j 0) (zero_signature set)
