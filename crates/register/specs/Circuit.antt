-- The signature register and its chains, as document 01 describes them: "Shift the state up by one and drop bit m; if the
-- old bit m − 1 was set, XOR the tap word in; then XOR in the spread word of every chain whose cell is 1." Document 02, No. 1:
-- "an inversion word after the tap word, XORed into the state at every clock".
--
--   Circuit           the register's width m, tap word and inversion word, and the chains' spread words
--   circuit m t v ws  the circuit of width m, tap word t, inversion word v and spread words ws
--   uninverted k      the same register and chains without inversion
--   chains k          document 01: n, the number of chains
--   advanced m t s    the state s of a register of width m and tap word t, shifted up by one with bit m dropped, and the
--                     tap word XORed in if bit m - 1 was set: a clock with all cells 0 and no inversion
--   clocked k x s     documents 01 and 02: one clock of the state s with the cells x
--   bad_taps m t       document 01, 3: the tap word has bit 0 clear or a bit at or above m
--   bad_inversion m v  document 02, 25: the inversion word has a bit at or above m
--   bad_chains n       document 01, 4: the chain count isn't 1 to 256
--   too_many_slices s   document 01, 7: the slice count is above 512
use Rattle.std.specs.Prelude.{Bool, ◌||◌, List, ℕ, ◌-◌, ◌*◌, ◌%◌, ◌^◌, eqb, ltb, length}
use Rattle.std.specs.Int.Bits.{bit_xor}
use Rattle.word.specs.Word.{digit, beyond}
use Rattle.rows.specs.Row.{Cells}
use Rattle.chains.specs.Driven.{chosen, driven}

pub record Circuit : Type 0 where
  pub width : ℕ
  pub taps : ℕ
  pub inversion : ℕ
  pub spread : List ℕ

abbrev pub circuit : ℕ → ℕ → ℕ → List ℕ → Circuit
circuit m t v ws = record { width = m; taps = t; inversion = v; spread = ws }

abbrev pub uninverted : Circuit → Circuit
uninverted k = circuit k.width k.taps 0 k.spread

abbrev pub chains : Circuit → ℕ
chains k = length k.spread

unfoldable pub advanced : ℕ → ℕ → ℕ → ℕ
advanced m t s = bit_xor (s * 2 % 2 ^ m) (chosen (digit (m - 1) s) t)

unfoldable pub clocked : Circuit → Cells → ℕ → ℕ
clocked k x s = bit_xor (bit_xor (advanced k.width k.taps s) (driven k.spread x (chains k))) k.inversion

unfoldable pub bad_taps : ℕ → ℕ → Bool
bad_taps m t = eqb (digit 0 t) 0 || beyond m t

abbrev pub bad_inversion : ℕ → ℕ → Bool
bad_inversion m v = beyond m v

unfoldable pub bad_chains : ℕ → Bool
bad_chains n = ltb n 1 || ltb 256 n

abbrev pub too_many_slices : ℕ → Bool
too_many_slices s = ltb 512 s
