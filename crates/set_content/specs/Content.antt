-- What the set writer is handed. Document 01: "The set writer takes the tap word, spread words and the two lists of rows, and the
-- width and slice count"; "A word later added to the set's register section is [..] taken by the set writer": document 02, No. 1, the
-- inversion word; "A list later added to the set goes to the writer as bytes laid out as in the file, 8 if they aren't whole entries within
-- the count's limit": document 02, No. 7, the entries of ties. It meets 2, 3, 25, 4, 6, 7, 8, 9, 10, 29, 30, 31 and 24: document 01,
-- "24 stands last in its call, also beside numbers that later requests add".
--
--   SetContent          what the writer is handed: m, the tap word, the inversion word, the spread words, the value rows, the mark
--                       rows, s, and the entries of ties as bytes
--   set_content m t i ws v k s e   the content of these
--   content_in set       the content of a set file: what the writer is handed to write it again
--   content_chains k     document 01: n
--   content_count k      the number of entries
--   content_ties k       the entries as ties
--   content_marks k t c  the mark of chain c in slice t
--   bad_rows k           document 01, 8: the length of a list of rows isn't what the counts give
--   bad_entries k        document 01, 8: the entries aren't whole, or are more than 256
--   spare_in_lists k      document 01, 9: a row has a spare bit set
--   valued_in_lists k     document 01, 10: an unknown cell has its value bit set
--   wrong_ties_in k       document 02, 29: an entry names a cell that is absent or not unknown
--   set_write_tests k room   the numbers that the writer meets, in order, for an output of `room` bytes
use Rattle.std.specs.Prelude.{Bool, not, ◌||◌, List, [], ◌∷◌, ℕ, ◌*◌, ◌/◌, ◌%◌, eqb, ltb, length}
use Rattle.word.specs.Word.{bad_width}
use Rattle.word.specs.Reply.{Test, ◌when◌}
use Rattle.rows.specs.Row.{Cells, cell, row_bytes}
use Rattle.rows.specs.Lists.{list_row, spare_in, valued_unknown}
use Rattle.ties.specs.Ties.{Ties, entry_bytes, most_ties, ties_in, wrong_cells, wrong_order, wrong_sides}
use Rattle.register.specs.Circuit.{bad_taps, bad_inversion, bad_chains, too_many_slices}
use Rattle.chains.specs.Driven.{bad_spread}
use Rattle.set_layout.specs.Layout.{set_length, width_of, taps_of, inversion_of, spread_of, slices_of, values_of, marks_of, tie_bytes}

pub record SetContent : Type 0 where
  pub m : ℕ
  pub taps : ℕ
  pub inversion : ℕ
  pub spread : List ℕ
  pub values : List ℕ
  pub marks : List ℕ
  pub s : ℕ
  pub ties : List ℕ

abbrev pub set_content : ℕ → ℕ → ℕ → List ℕ → List ℕ → List ℕ → ℕ → List ℕ → SetContent
set_content m t i ws v k s e = record { m = m; taps = t; inversion = i; spread = ws; values = v; marks = k; s = s; ties = e }

abbrev pub content_in : List ℕ → SetContent
content_in set = set_content (width_of set) (taps_of set) (inversion_of set) (spread_of set) (values_of set) (marks_of set) (slices_of set) (tie_bytes set)

abbrev pub content_chains : SetContent → ℕ
content_chains k = length k.spread

abbrev pub content_count : SetContent → ℕ
content_count k = length k.ties / entry_bytes

abbrev pub content_ties : SetContent → Ties
content_ties k = ties_in k.ties (content_count k)

abbrev pub content_marks : SetContent → ℕ → Cells
content_marks k t = cell (list_row (content_chains k) k.marks t)

-- ---- the tests

abbrev pub bad_rows : SetContent → Bool
bad_rows k =
    not (eqb (length k.values) (row_bytes (content_chains k) * k.s)) || not (eqb (length k.marks) (row_bytes (content_chains k) * k.s))

abbrev pub bad_entries : SetContent → Bool
bad_entries k = not (eqb (length k.ties % entry_bytes) 0) || ltb (entry_bytes * most_ties) (length k.ties)

abbrev pub spare_in_lists : SetContent → Bool
spare_in_lists k =
    spare_in (content_chains k) (list_row (content_chains k) k.values) k.s || spare_in (content_chains k) (list_row (content_chains k) k.marks) k.s

abbrev pub valued_in_lists : SetContent → Bool
valued_in_lists k =
    valued_unknown (content_chains k) (list_row (content_chains k) k.values) (list_row (content_chains k) k.marks) k.s

abbrev pub wrong_ties_in : SetContent → Bool
wrong_ties_in k = wrong_cells k.s (content_chains k) (content_marks k) (content_ties k)

unfoldable pub set_write_tests : SetContent → ℕ → List Test
set_write_tests k room =
    2 when bad_width k.m
    ∷ 3 when bad_taps k.m k.taps
    ∷ 25 when bad_inversion k.m k.inversion
    ∷ 4 when bad_chains (content_chains k)
    ∷ 6 when bad_spread k.m k.spread
    ∷ 7 when too_many_slices k.s
    ∷ 8 when (bad_rows k || bad_entries k)
    ∷ 9 when spare_in_lists k
    ∷ 10 when valued_in_lists k
    ∷ 29 when wrong_ties_in k
    ∷ 30 when wrong_order (content_ties k)
    ∷ 31 when wrong_sides (content_ties k)
    ∷ 24 when ltb room (set_length (content_chains k) k.s (content_count k))
    ∷ []
