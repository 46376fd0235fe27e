-- Numbers in a list of bytes. Document 01, "Files": all counts are 2 bytes, all words 8 bytes, low byte first.
--
--   number bs         the number whose bytes are bs, low byte first
--   number_at k s i    the number of the k bytes of s from place i; a byte past the end counts as 0
--   count_at s i       the count of 2 bytes at place i
--   word_at s i        the word of 8 bytes at place i
--   words_at s i k     the k words of 8 bytes from place i
--   bytes_of k x       the k low bytes of x, low byte first
--   word_bytes ws      the words ws, 8 bytes each
use Rattle.std.specs.Prelude.{List, [], ◌∷◌, ◌++◌, ℕ, zero, suc, ◌+◌, ◌*◌, ◌/◌, ◌%◌, take, drop}

unfoldable pub number : List ℕ → ℕ
number [] = 0
number (b ∷ bs) = b + 256 * number bs

unfoldable pub number_at : ℕ → List ℕ → ℕ → ℕ
number_at k s i = number (take k (drop i s))

abbrev pub count_at : List ℕ → ℕ → ℕ
count_at s i = number_at 2 s i

abbrev pub word_at : List ℕ → ℕ → ℕ
word_at s i = number_at 8 s i

unfoldable pub words_at : List ℕ → ℕ → ℕ → List ℕ
words_at s i zero = []
words_at s i (suc k) = word_at s i ∷ words_at s (i + 8) k

unfoldable pub bytes_of : ℕ → ℕ → List ℕ
bytes_of zero x = []
bytes_of (suc k) x = x % 256 ∷ bytes_of k (x / 256)

unfoldable pub word_bytes : List ℕ → List ℕ
word_bytes [] = []
word_bytes (w ∷ ws) = bytes_of 8 w ++ word_bytes ws
