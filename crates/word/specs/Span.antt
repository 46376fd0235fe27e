-- XORs of words.
--
--   is_xor_of ws y    y is the XOR of some of the words ws, or of none
--   xor_below n f    the XOR of the words f 0, f 1, .. up to f (n - 1)
use Rattle.std.specs.Prelude.{Bool, ◌||◌, List, [], ◌∷◌, ℕ, zero, suc, eqb}
use Rattle.std.specs.Int.Bits.{bit_xor}

-- without the first word, or with it
unfoldable pub is_xor_of : List ℕ → ℕ → Bool
is_xor_of [] y = eqb y 0
is_xor_of (w ∷ ws) y = is_xor_of ws y || is_xor_of ws (bit_xor w y)

unfoldable pub xor_below : ℕ → (ℕ → ℕ) → ℕ
xor_below zero f = 0
xor_below (suc n) f = bit_xor (xor_below n f) (f n)
