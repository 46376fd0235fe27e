-- One slice's rows, and the entries of ties. Document 01: "A caller may have the value row or mark row of one slice. That answer is
-- the stretch of the set file itself. Where the call declines, the stretch is empty (a row has at least one byte), and a companion call on the
-- same input gives the number." And: "A list later added to the set [..] comes back as the file's own stretch", which may be empty in an
-- answer too: there the companion tells.
--
--   row_tests set t      the set's numbers, then 11: the slice number isn't below s
--   Stretch             a part of the set: its first byte and how many
--   row_reply set t i    the companion's reply, for the row of slice t that stands at place i
--   value_reply set t    .. for its value row
--   mark_reply set t     .. for its row of unknown marks
--   ties_reply set       .. for the entries of ties, without their count: it meets the set's numbers alone
--   stretch r set       the part of the set that the reply r names; nothing in a refusal
--   stretch_at r         the place of its first byte in the set; 0 in a refusal
--   said_place p         the paper's reading of what the companion answers
use Rattle.std.specs.Prelude.{not, List, [], ◌∷◌, ◌++◌, ℕ, ◌*◌, ltb, take, drop, Result}
use Rattle.word.specs.Reply.{Test, ◌when◌, Reply, answer, refusal, reply}
use Rattle.rows.specs.Row.{row_bytes}
use Rattle.ties.specs.Ties.{entry_bytes}
use Rattle.set_layout.specs.Layout.{chains_of, slices_of, value_at, mark_at, ties_at, tie_count_of}
use Rattle.set_file.specs.Reading.{set_tests}
use Rattle.refusals.specs.declared.Refusal.{Refusal}
use Rattle.refusals.specs.Refusals.{replied_by}
use Rattle.slice_rows.specs.declared.Place.{Place}

pub record Stretch : Type 0 where
  pub start : ℕ
  pub bytes : ℕ

unfoldable pub row_tests : List ℕ → ℕ → List Test
row_tests set t = set_tests set ++ 11 when not (ltb t (slices_of set)) ∷ []

unfoldable pub row_reply : List ℕ → ℕ → ℕ → Reply Stretch
row_reply set t i = reply (row_tests set t) (record { start = i; bytes = row_bytes (chains_of set) })

abbrev pub value_reply : List ℕ → ℕ → Reply Stretch
value_reply set t = row_reply set t (value_at (chains_of set) t)

abbrev pub mark_reply : List ℕ → ℕ → Reply Stretch
mark_reply set t = row_reply set t (mark_at (chains_of set) t)

unfoldable pub ties_reply : List ℕ → Reply Stretch
ties_reply set = reply (set_tests set) (record { start = ties_at (chains_of set) (slices_of set); bytes = entry_bytes * tie_count_of set })

abbrev pub stretch : Reply Stretch → List ℕ → List ℕ
stretch (answer p) set = take p.bytes (drop p.start set)
stretch (refusal n) set = []

abbrev pub stretch_at : Reply Stretch → ℕ
stretch_at (answer p) = p.start
stretch_at (refusal n) = 0

abbrev pub said_place : Result Place Refusal → Reply Stretch
said_place = replied_by (λ (p : Place). record { start = p.start; bytes = p.bytes })
