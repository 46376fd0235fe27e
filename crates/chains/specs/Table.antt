-- A table of half bytes: what four chains drive, for each of the sixteen ways to set their cells. The entries of a row's half bytes
-- add up to what all chains drive (proofs/TableLaws.antt, table_drives).
--
--   half_byte ws e         the XOR of the words of ws of four chains, the first of them 4 * (e ÷ 16): those whose bit in e mod 16 is
--                         1, lowest bit first
--   HalfBytes ws table    the table has these entries for the words ws: 1,024 of them, for 256 chains
--   table_end n            the number of entries that can differ from 0, for n chains
--   looked_byte table row i   the XOR of the entries of the table for the two half bytes of byte i of the row
--   looked_up table row i  the XOR of the entries of the table for the two half bytes of each of the row's first i bytes
use Rattle.std.specs.Prelude.{◌≡◌, List, ℕ, zero, suc, ◌+◌, ◌*◌, ◌/◌, ◌%◌, ◌<◌, min, drop, get_or}
use Rattle.std.specs.Int.Bits.{bit_xor}
use Rattle.word.specs.Word.{digit}
use Rattle.chains.specs.Driven.{driven}

unfoldable pub half_byte : List ℕ → ℕ → ℕ
half_byte ws e = driven (drop (4 * (e / 16)) ws) (λ i. digit i (e % 16)) 4

abbrev pub HalfBytes : List ℕ → List ℕ → Type 0
HalfBytes ws table = (e : ℕ) → e < 1024 → get_or table e 0 ≡ half_byte ws e

abbrev pub table_end : ℕ → ℕ
table_end n = min (16 * ((n + 3) / 4)) 1024

abbrev pub looked_byte : List ℕ → List ℕ → ℕ → ℕ
looked_byte table row i = bit_xor (get_or table (32 * i + get_or row i 0 % 16) 0) (get_or table (32 * i + 16 + get_or row i 0 / 16) 0)

unfoldable pub looked_up : List ℕ → List ℕ → ℕ → ℕ
looked_up table row zero = 0
looked_up table row (suc i) =
    bit_xor (bit_xor (looked_up table row i) (get_or table (32 * i + get_or row i 0 % 16) 0)) (get_or table (32 * i + 16 + get_or row i 0 / 16) 0)
