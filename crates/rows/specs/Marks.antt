-- Marks: how many cells of a row are marked, and the words that they choose.
--
--   total n f           f 0 + f 1 + .. + f (n - 1)
--   listed d w          the word w in a list where the mark d is 1, and an empty list where it is 0
--   marked_words ws x c  the words of ws of the chains below c whose cell in x is 1
--   bits w              the cells of 64 chains: that of chain c is bit c of the word w
use Rattle.std.specs.Prelude.{List, [], ◌∷◌, ℕ, zero, suc, ◌+◌, get_or}
use Rattle.word.specs.Word.{digit}
use Rattle.numbers.specs.Joined.{joined}
use Rattle.rows.specs.Row.{Cells}

unfoldable pub total : ℕ → (ℕ → ℕ) → ℕ
total zero f = 0
total (suc n) f = total n f + f n

abbrev pub listed : ℕ → ℕ → List ℕ
listed zero w = []
listed (suc d) w = w ∷ []

abbrev pub marked_words : List ℕ → Cells → ℕ → List ℕ
marked_words ws x c = joined (λ d. listed (x d) (get_or ws d 0)) c

abbrev pub bits : ℕ → Cells
bits w c = digit c w
