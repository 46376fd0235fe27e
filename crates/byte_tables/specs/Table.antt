-- A table by bytes: for each byte of a word of 64 marks and each value of it, the XOR of the words that it marks, and what is looked up in
-- it. The entries of a word's bytes add up to the XOR of all words that it marks (proofs/TableLaws.antt, looked_marked).
--
--   Filled ws l₀ l e i n   the n entries of the list l from e on are XORs of words of ws: entry e + v of those that the bits of v mark, bit 0 for
--                          word i. The entries before e are those of l₀
--   ByteTable ws table     entry 256 b + v of the table, for each b below 8 and v below 256, is the XOR of the words of ws that byte b marks where
--                          it is v
--   looked table x b       the XOR of the entries of the table for the first b bytes of x, lowest first
use Rattle.std.specs.Prelude.{◌≡◌, List, ℕ, zero, suc, ◌+◌, ◌*◌, ◌/◌, ◌%◌, ◌^◌, ◌<◌, length, get_or}
use Rattle.std.specs.Int.Bits.{bit_xor}
use Rattle.word.specs.Marked.{xor_marked}

pub record Filled (ws l₀ l : List ℕ) (e i n : ℕ) : Type 0 where
  pub long : length l ≡ length l₀
  pub new : (v : ℕ) → v < n → get_or l (e + v) 0 ≡ xor_marked ws (v * 2 ^ i)
  pub below : (j : ℕ) → j < e → get_or l j 0 ≡ get_or l₀ j 0

abbrev pub ByteTable : List ℕ → List ℕ → Type 0
ByteTable ws table = (b v : ℕ) → b < 8 → v < 256 → get_or table (256 * b + v) 0 ≡ xor_marked ws (v * 2 ^ (8 * b))

unfoldable pub looked : List ℕ → ℕ → ℕ → ℕ
looked table x zero = 0
looked table x (suc b) = bit_xor (looked table x b) (get_or table (256 * b + x / 2 ^ (8 * b) % 256) 0)
