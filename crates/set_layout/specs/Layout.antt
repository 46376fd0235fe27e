-- The set file. Document 01, "Files": "Set: m, then the tap word; n, then n spread words; s, then s slices, each a value row
-- and a row of unknown marks. An unknown cell's value bit is 0." Document 02, No. 1: "The set's register section gets an inversion
-- word after the tap word". Document 02, No. 7: "After its slices a set carries a count of 0 to 256, then entries: slice, chain and symbol number
-- (2 bytes each) and a byte, 0 for as is, 1 for opposite."
--
--   taps_at              the place of the tap word; m stands at place 0
--   inversion_at         the place of the inversion word
--   chains_at            the place of n
--   spread_at            the place of the first spread word
--   slices_at n          the place of the slice count, for n chains
--   head_length n        the bytes before the rows
--   rows_at n            the place of the first row
--   value_at n t         the place of slice t's value row
--   mark_at n t          the place of slice t's row of unknown marks
--   tie_count_at n s      the place of the count of ties, behind the last of s slices
--   ties_at n s          the place of the first entry
--   set_length n s k     the bytes of a set of n chains, s slices and k entries
--   width_of set         document 01: m
--   taps_of set          the tap word
--   inversion_of set     the inversion word
--   chains_of set        document 01: n
--   spread_of set        the n spread words
--   slices_of set        document 01: s
--   circuit_of set       the register and its chains
--   value_row set t      slice t's value row
--   mark_row set t       slice t's row of unknown marks
--   values_of set        document 01, "the two lists of rows": the value rows of all slices, one after the other
--   marks_of set         .. and their rows of unknown marks
--   values set t c      the value bit of chain c in slice t
--   marks set t c       its mark: 1 where the cell is unknown
--   tie_count_of set      the count of ties
--   tie_bytes set        the entries, without their count
--   ties_of set          .. as ties
--   no_words             256 zero words
use Rattle.std.specs.Prelude.{List, ℕ, ◌+◌, ◌*◌, take, drop, replicate}
use Rattle.numbers.specs.Bytes.{count_at, word_at, words_at}
use Rattle.numbers.specs.Joined.{joined}
use Rattle.rows.specs.Row.{Cells, cell, row_bytes}
use Rattle.ties.specs.Ties.{Ties, entry_bytes, ties_in}
use Rattle.register.specs.Circuit.{Circuit, circuit}

-- ---- the places, each from the one before

abbrev pub taps_at : ℕ
taps_at = 2

abbrev pub inversion_at : ℕ
inversion_at = taps_at + 8

abbrev pub chains_at : ℕ
chains_at = inversion_at + 8

abbrev pub spread_at : ℕ
spread_at = chains_at + 2

abbrev pub slices_at : ℕ → ℕ
slices_at n = spread_at + 8 * n

abbrev pub head_length : ℕ → ℕ
head_length n = slices_at n + 2

abbrev pub rows_at : ℕ → ℕ
rows_at n = head_length n

abbrev pub value_at : ℕ → ℕ → ℕ
value_at n t = rows_at n + 2 * row_bytes n * t

abbrev pub mark_at : ℕ → ℕ → ℕ
mark_at n t = value_at n t + row_bytes n

abbrev pub tie_count_at : ℕ → ℕ → ℕ
tie_count_at n s = value_at n s

abbrev pub ties_at : ℕ → ℕ → ℕ
ties_at n s = tie_count_at n s + 2

abbrev pub set_length : ℕ → ℕ → ℕ → ℕ
set_length n s k = ties_at n s + entry_bytes * k

-- ---- the parts

abbrev pub width_of : List ℕ → ℕ
width_of set = count_at set 0

abbrev pub taps_of : List ℕ → ℕ
taps_of set = word_at set taps_at

abbrev pub inversion_of : List ℕ → ℕ
inversion_of set = word_at set inversion_at

abbrev pub chains_of : List ℕ → ℕ
chains_of set = count_at set chains_at

abbrev pub spread_of : List ℕ → List ℕ
spread_of set = words_at set spread_at (chains_of set)

abbrev pub slices_of : List ℕ → ℕ
slices_of set = count_at set (slices_at (chains_of set))

abbrev pub circuit_of : List ℕ → Circuit
circuit_of set = circuit (width_of set) (taps_of set) (inversion_of set) (spread_of set)

unfoldable pub value_row : List ℕ → ℕ → List ℕ
value_row set t = take (row_bytes (chains_of set)) (drop (value_at (chains_of set) t) set)

unfoldable pub mark_row : List ℕ → ℕ → List ℕ
mark_row set t = take (row_bytes (chains_of set)) (drop (mark_at (chains_of set) t) set)

abbrev pub values_of : List ℕ → List ℕ
values_of set = joined (value_row set) (slices_of set)

abbrev pub marks_of : List ℕ → List ℕ
marks_of set = joined (mark_row set) (slices_of set)

abbrev pub values : List ℕ → ℕ → Cells
values set t = cell (value_row set t)

abbrev pub marks : List ℕ → ℕ → Cells
marks set t = cell (mark_row set t)

abbrev pub tie_count_of : List ℕ → ℕ
tie_count_of set = count_at set (tie_count_at (chains_of set) (slices_of set))

unfoldable pub tie_bytes : List ℕ → List ℕ
tie_bytes set = take (entry_bytes * tie_count_of set) (drop (ties_at (chains_of set) (slices_of set)) set)

abbrev pub ties_of : List ℕ → Ties
ties_of set = ties_in (tie_bytes set) (tie_count_of set)

unfoldable pub no_words : List ℕ
no_words = replicate 256 0
