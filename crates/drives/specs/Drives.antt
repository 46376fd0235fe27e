-- What the chains drive in each slice, as a list of words: place t has the drive of slice t.
--
--   Added l₀ l s f         the list l is l₀ with the word f t XORed into each place t below s
--   marks_at l r from t     the 64 cells of slice t whose bytes stand from byte `from` of its row on, of the rows r in the list l, as a word
--   Drives ws l r s ds     the list ds has at each place t below s what chains with the spread words ws drive in slice t of these rows
use Rattle.std.specs.Prelude.{◌≡◌, List, ℕ, ◌≤◌, ◌<◌, length, get_or}
use Rattle.std.specs.Int.Bits.{bit_xor}
use Rattle.numbers.specs.Bytes.{word_at}
use Rattle.rows.specs.Lists.{row_of, cells_of}
use Rattle.rows.specs.declared.Rows.{Rows}
use Rattle.chains.specs.Driven.{driven}

pub record Added (l₀ l : List ℕ) (s : ℕ) (f : ℕ → ℕ) : Type 0 where
  pub long : length l ≡ length l₀
  pub new : (t : ℕ) → t < s → get_or l t 0 ≡ bit_xor (get_or l₀ t 0) (f t)
  pub rest : (t : ℕ) → s ≤ t → get_or l t 0 ≡ get_or l₀ t 0

abbrev pub marks_at : List ℕ → Rows → ℕ → ℕ → ℕ
marks_at l r from t = word_at (row_of l r t) from

abbrev pub Drives : List ℕ → List ℕ → Rows → ℕ → List ℕ → Type 0
Drives ws l r s ds = (t : ℕ) → t < s → get_or ds t 0 ≡ driven ws (cells_of l r t) (length ws)
