-- Chains and their spread words. Document 01: "Each of n chains has a spread word: the register inputs that it drives. It isn't
-- zero and has no bit at or above m"; a clock XORs in "the spread word of every chain whose cell is 1".
--
--   chosen d w      the word w where the digit d is 1, and 0 where it is 0
--   driven ws x n   the XOR of the words of ws of the chains below n whose cell in x is 1
--   bad_spread m ws  document 01, 6: a spread word is zero or has a bit at or above m
use Rattle.std.specs.Prelude.{Bool, ◌||◌, List, ℕ, zero, suc, eqb, get_or}
use Rattle.std.specs.Int.Bits.{bit_xor}
use Rattle.word.specs.Word.{beyond}
use Rattle.word.specs.Some.{any_of}
use Rattle.rows.specs.Row.{Cells}

abbrev pub chosen : ℕ → ℕ → ℕ
chosen zero w = 0
chosen (suc d) w = w

unfoldable pub driven : List ℕ → Cells → ℕ → ℕ
driven ws x zero = 0
driven ws x (suc c) = bit_xor (driven ws x c) (chosen (x c) (get_or ws c 0))

unfoldable pub bad_spread : ℕ → List ℕ → Bool
bad_spread m ws = any_of (λ w. eqb w 0 || beyond m w) ws
