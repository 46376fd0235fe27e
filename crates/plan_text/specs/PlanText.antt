-- What the plan printer writes, in the lines of plan_lines/specs/Lines: of a plan the set's line, a line for each word and the last
-- line; of a refusal its line alone.
--
--   text_of r set        the text for the reply r of planning the set
--   plan_text set k l    the whole text, for k working places and l word places
--   longest             the bytes of the longest set
--   printed_text set     what the plan printer writes for the set. Document 02, No. 3: "The printer still lends 4,096", as its working list.
--                       It lends 64 word places, as many as a register can have bits
use Rattle.std.specs.Prelude.{List, ◌++◌, ℕ}
use Rattle.word.specs.Reply.{Reply, answer, refusal}
use Rattle.set_layout.specs.Layout.{set_length, width_of, chains_of, slices_of}
use Rattle.signatures.specs.Sets.{unknowns_of}
use Rattle.kept_words.specs.Working.{words_of}
use Rattle.planner.specs.Planning.{PlanParts, plan_reply}
use Rattle.plan_lines.specs.Lines.{set_line, word_lines, end_line, refused_line}

abbrev pub text_of : Reply PlanParts → List ℕ → List ℕ
text_of (answer p) set =
    set_line (width_of set) (chains_of set) (slices_of set) (unknowns_of set) ++ word_lines 0 (words_of set) p.expected ++ end_line p.q
text_of (refusal n) set = refused_line n

unfoldable pub plan_text : List ℕ → ℕ → ℕ → List ℕ
plan_text set k l = text_of (plan_reply set k l) set

-- 256 chains, 512 slices and 256 entries of ties
abbrev pub longest : ℕ
longest = set_length 256 512 256

unfoldable pub printed_text : List ℕ → List ℕ
printed_text set = plan_text set 4096 64
