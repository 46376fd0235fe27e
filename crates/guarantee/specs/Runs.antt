-- A run as a set of its own. Document 02, No. 5: "Each run is later judged as a set of its own."
--
--   run_content set a b   the content of the slices a to b - 1 of a set: its register and chains, and these slices' rows, without ties, since the
--                        cutter goes on with every cell free (document 02, No. 7)
--   run_file set a b      the set file that the set writer makes of it
--   RunPlanned           what is promised of that file, for a run from a up to b of the set cut for k words
use Rattle.std.specs.Prelude.{◌≡◌, List, [], ℕ, ◌+◌, ◌-◌, ◌≤◌, length}
use Rattle.word.specs.Reply.{answer, first_of}
use Rattle.numbers.specs.Joined.{joined}
use Rattle.set_layout.specs.Layout.{width_of, taps_of, inversion_of, spread_of, value_row, mark_row}
use Rattle.set_file.specs.Reading.{set_tests}
use Rattle.set_content.specs.Content.{SetContent, set_content}
use Rattle.set_writer.specs.Writing.{set_bytes, set_write_reply}
use Rattle.signatures.specs.Sets.{given}
use Rattle.kept_words.specs.Working.{words_of}
use Rattle.planner.specs.Planning.{words_reply, parts_of, plan_reply}
use Rattle.cutter.specs.Cutting.{words_left}

abbrev pub run_content : List ℕ → ℕ → ℕ → SetContent
run_content set a b =
    set_content (width_of set) (taps_of set) (inversion_of set) (spread_of set) (joined (λ t. value_row set (a + t)) (b - a)) (joined (λ t. mark_row set (a + t)) (b - a)) (b - a) []

unfoldable pub run_file : List ℕ → ℕ → ℕ → List ℕ
run_file set a b = set_bytes (run_content set a b)

-- the writer takes the run's slices where its output has room, the file meets none of the set's numbers, and it is planned with exactly the
-- words that the cutting counted, at least k, where 64 working places and places for these words are lent
pub record RunPlanned (set : List ℕ) (k a b : ℕ) : Type 0 where
  pub written : (room : ℕ) → length (run_file set a b) ≤ room → set_write_reply (run_content set a b) room ≡ answer (length (run_file set a b))
  pub taken : first_of (set_tests (run_file set a b)) ≡ 0
  pub words : length (words_of (run_file set a b)) ≡ words_left (given set) a b
  pub enough : k ≤ words_left (given set) a b
  pub worded : (w l : ℕ) → 64 ≤ w → words_left (given set) a b ≤ l
      → words_reply (run_file set a b) w l ≡ answer (record { m = width_of set; q = words_left (given set) a b })
  pub planned : (w l : ℕ) → 64 ≤ w → words_left (given set) a b ≤ l → plan_reply (run_file set a b) w l ≡ answer (parts_of (run_file set a b))
