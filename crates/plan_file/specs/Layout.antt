-- The plan file. Document 01, "Files": "Plan: m; q, then q words; q again, then q ÷ 8 rounded up bytes of expected bits, word i
-- in bit i mod 8 of byte i ÷ 8, spare bits 0."
--
--   words_place          the place of the first word
--   again_at q           the place of the second count
--   bits_at q            the place of the expected bits
--   bit_bytes q          the bytes that hold q expected bits: q ÷ 8 rounded up
--   plan_length q        the bytes of a plan of q words
--   file_width plan      document 01: m
--   file_count plan      document 01: q
--   file_words plan      the plan's words
--   file_again plan      the second count
--   file_expected plan   the expected bits as one word, bit i for word i: the number of their bytes, low byte first
use Rattle.std.specs.Prelude.{List, ℕ, ◌+◌, ◌*◌, ◌/◌}
use Rattle.numbers.specs.Bytes.{count_at, number_at, words_at}

abbrev pub words_place : ℕ
words_place = 4

abbrev pub again_at : ℕ → ℕ
again_at q = 4 + 8 * q

abbrev pub bits_at : ℕ → ℕ
bits_at q = 6 + 8 * q

abbrev pub bit_bytes : ℕ → ℕ
bit_bytes q = (q + 7) / 8

abbrev pub plan_length : ℕ → ℕ
plan_length q = bits_at q + bit_bytes q

abbrev pub file_width : List ℕ → ℕ
file_width plan = count_at plan 0

abbrev pub file_count : List ℕ → ℕ
file_count plan = count_at plan 2

abbrev pub file_words : List ℕ → List ℕ
file_words plan = words_at plan words_place (file_count plan)

abbrev pub file_again : List ℕ → ℕ
file_again plan = count_at plan (again_at (file_count plan))

abbrev pub file_expected : List ℕ → ℕ
file_expected plan = number_at (bit_bytes (file_count plan)) plan (bits_at (file_count plan))
