-- The parities of a list of words with a signature. Document 01: "The expected bit of a word is the parity of the bits it shares
-- with the signature for all unknowns 0. A cancelled bit is the same with the observed signature"; "the cancelled bits as one
-- word, bit i for word i".
--
--   parities ws y   the word whose bit i is the parity of the bits that word i of ws shares with y
use Rattle.std.specs.Prelude.{List, [], ◌∷◌, ℕ, ◌+◌, ◌*◌}
use Rattle.word.specs.Word.{parity}

unfoldable pub parities : List ℕ → ℕ → ℕ
parities [] y = 0
parities (w ∷ ws) y = parity w y + 2 * parities ws y
