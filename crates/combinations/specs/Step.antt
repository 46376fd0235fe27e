-- One column's step on a reduced list: the words that stay X-free when one column more is given. The lowest word that is odd
-- with the column is XORed into every later word that is odd with it, and dropped. This is the algorithm; that it gives the
-- reduced list of document 01 is a theorem (proofs/Theorems.antt, step_reduced).
--
--   cleared c p ws   the words ws, with p XORed into each that is odd with the column c
--   step c ws        the words ws after the column c
--   units m          1, 2, 4, .., the words of m single bits
--   steps cs ws      the words ws after the columns cs, one after the other
use Rattle.std.specs.Prelude.{List, [], ◌∷◌, ◌++◌, ℕ, zero, suc, ◌^◌}
use Rattle.std.specs.Int.Bits.{bit_xor}
use Rattle.word.specs.Word.{parity}

-- the first where the digit d is 0, and else the second
abbrev pub by_parity : {A : Type 0} → ℕ → A → A → A
by_parity zero a b = a
by_parity (suc d) a b = b

unfoldable pub cleared : ℕ → ℕ → List ℕ → List ℕ
cleared c p [] = []
cleared c p (w ∷ ws) = by_parity (parity w c) w (bit_xor w p) ∷ cleared c p ws

unfoldable pub step : ℕ → List ℕ → List ℕ
step c [] = []
step c (w ∷ ws) = by_parity (parity w c) (w ∷ step c ws) (cleared c w ws)

unfoldable pub units : ℕ → List ℕ
units zero = []
units (suc i) = units i ++ 2 ^ i ∷ []

unfoldable pub steps : List ℕ → List ℕ → List ℕ
steps [] ws = ws
steps (c ∷ cs) ws = steps cs (step c ws)
