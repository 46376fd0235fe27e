-- Text in a byte list, put there piece by piece.
--
--   decimal n           the decimal digits of a 64-bit number n, highest first, as bytes; "0" for 0
--   Put l at vs r l'    the bytes vs were put into the list l from place `at` on: r is the place behind them, and no further than
--                       l's end, and l' is l with them there, as far as it goes
use Rattle.std.specs.Prelude.{◌≡◌, cond, List, [], ◌∷◌, ◌++◌, ℕ, zero, suc, min, ◌+◌, ◌/◌, ◌%◌, ltb, length}
use Rattle.std.proofs.lemmas.List.Edits.{sets}

-- at most k digits
unfoldable pub digits_in : ℕ → ℕ → List ℕ
digits_in zero n = []
digits_in (suc k) n = cond (ltb n 10) ((48 + n) ∷ []) (digits_in k (n / 10) ++ (48 + n % 10) ∷ [])

-- a number below 2 ^ 64 has at most 20 digits
unfoldable pub decimal : ℕ → List ℕ
decimal n = digits_in 20 n

pub record Put (l : List ℕ) (at : ℕ) (vs : List ℕ) (r : ℕ) (l' : List ℕ) : Type 0 where
  pub place : r ≡ min (at + length vs) (length l)
  pub bytes : l' ≡ sets l at vs
