-- The XOR of the words of a list that the bits of a word mark.
--
--   xor_marked ws marks   the XOR of the words of ws whose bit in `marks` is 1, bit i for word i
use Rattle.std.specs.Prelude.{List, ℕ, ◌*◌, length, get_or}
use Rattle.word.specs.Word.{digit}
use Rattle.word.specs.Span.{xor_below}

unfoldable pub xor_marked : List ℕ → ℕ → ℕ
xor_marked ws marks = xor_below (length ws) (λ i. digit i marks * get_or ws i 0)
