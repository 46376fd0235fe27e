-- Numbers in a list of bytes: reading one byte on, how large a number is, and that what is written is read back.
use mathlib.Core.Path.{◌≡◌, refl, sym, ap, ap₂, ◌∙◌}
use mathlib.Core.List.{List, [], ◌∷◌, ◌++◌, append_assoc}
use Prim.Native.Nat.{ℕ, zero, suc, ◌+◌, ◌*◌, ◌/◌, ◌%◌, ◌^◌, ◌≤◌, ◌<◌}
use native.Mathlib.Omega.{arith}
use native.Mathlib.Nat.{mul-le-mul_right, add-zero, add-suc, suc-add, pow-suc, mod-lt, mod-one, one-le-pow, le_of_suc-le-suc}
use native.Mathlib.Numerals.{add-one, towards_suc}
use lib.Arith.{mod-mul}
use lib.Dec.{lit<}
use lib.ListN.{length, get_or, set, take, drop, length-append, drop_of_length-le}
use lib.Seq.{drop-drop, take-nil, take_at, get_or-take, drop-append_seam, sets, set_out}
use Rattle.numbers.specs.Bytes.{number, number_at, count_at, word_at, words_at, bytes_of, word_bytes}

pub number_at_zero : (s : List ℕ) (i : ℕ) → number_at zero s i ≡ 0
unfolding number_at number
number_at_zero s i = refl

-- past the end of the list every number is 0
pub number_at_end : (k : ℕ) (s : List ℕ) (i : ℕ) → length s ≤ i → number_at k s i ≡ 0
unfolding number_at number
number_at_end k s i h = rw (drop_of_length-le s h, take-nil {A = ℕ} k)

pub number_at_suc : (k : ℕ) (s : List ℕ) (i : ℕ) → number_at (suc k) s i ≡ get_or s i 0 + 256 * number_at k s (suc i)
unfolding number_at number
number_at_suc k [] i = omega (arith, number_at_end (suc k) [] i (omega arith), number_at_end k [] (suc i) (omega arith))
number_at_suc k (b ∷ s) zero = refl
number_at_suc k (b ∷ s) (suc i) = number_at_suc k s i

-- a number that lies within the first n bytes is read from them alone
pub number_at_take : (k : ℕ) (s : List ℕ) (n i : ℕ) → i + k ≤ n → number_at k (take n s) i ≡ number_at k s i
number_at_take zero s n i h = number_at_zero (take n s) i ∙ sym (number_at_zero s i)
number_at_take (suc k) s n i h =
    number_at_suc k (take n s) i
    ∙ ap₂ (λ (x y : ℕ). x + 256 * y) (get_or-take n s i 0 (omega arith)) (number_at_take k s n (suc i) (omega arith))
    ∙ sym (number_at_suc k s i)

-- .. and one that lies within a part of n bytes at place `at` is read from that part
pub number_in_part : (k : ℕ) (s : List ℕ) (at n i : ℕ) → i + k ≤ n → number_at k (take n (drop at s)) i ≡ number_at k s (at + i)
unfolding number_at
number_in_part k s at n i h = number_at_take k (drop at s) n i h ∙ ap (λ (l : List ℕ). number (take k l)) (drop-drop i at s)

-- the k bytes of s from place i; a byte past the end is 0
abbrev bytes_from : ℕ → List ℕ → ℕ → List ℕ
bytes_from zero s i = []
bytes_from (suc k) s i = get_or s i 0 ∷ bytes_from k s (suc i)

number_of_bytes : (k : ℕ) (s : List ℕ) (i : ℕ) → number_at k s i ≡ number (bytes_from k s i)
unfolding number
number_of_bytes zero s i = number_at_zero s i
number_of_bytes (suc k) s i = number_at_suc k s i ∙ ap (λ (n : ℕ). get_or s i 0 + 256 * n) (number_of_bytes k s (suc i))

pub count_of_bytes : (s : List ℕ) (i : ℕ) → count_at s i ≡ get_or s i 0 + 256 * get_or s (i + 1) 0
unfolding number
count_of_bytes s i = rw (add-one, number_of_bytes 2 s i) (omega arith)

pub word_of_bytes : (s : List ℕ) (i : ℕ)
    → word_at s i
    ≡ number
    (get_or s i 0 ∷ get_or s (i + 1) 0 ∷ get_or s (i + 2) 0 ∷ get_or s (i + 3) 0 ∷ get_or s (i + 4) 0 ∷ get_or s (i + 5) 0 ∷ get_or s (i + 6) 0 ∷ get_or s (i + 7) 0 ∷ [])
word_of_bytes s i = simp towards_suc (number_of_bytes 8 s i)

-- ---- a word, from its last byte on

-- a byte moves from the end of the bytes that are left into the number of those behind it
pub number_moved : (r : List ℕ) (b w : ℕ) → number (r ++ b ∷ []) + 256 ^ length (r ++ b ∷ []) * w ≡ number r + 256 ^ length r * (256 * w + b)
unfolding number
number_moved [] b w = omega arith
number_moved (a ∷ r) b w = step (number (r ++ b ∷ [])) (number r) (length (r ++ b ∷ [])) (length r) (number_moved r b w)
  where
    step : (x y n m : ℕ) → x + 256 ^ n * w ≡ y + 256 ^ m * (256 * w + b) → a + 256 * x + 256 ^ suc n * w ≡ a + 256 * y + 256 ^ suc m * (256 * w + b)
    step x y n m e = rw (pow-suc 256 n, pow-suc 256 m) (omega arith)

-- .. and that number is no larger than all of them
pub number_within : (r : List ℕ) (w x : ℕ) → number r + 256 ^ length r * w ≡ x → w ≤ x
number_within r w x e = omega (arith, mul-le-mul_right w (one-le-pow (length r) 256 (omega arith)))

-- .. until none is left
pub number_whole : (r : List ℕ) (w x : ℕ) → length r ≡ 0 → number r + 256 ^ length r * w ≡ x → w ≡ x
unfolding number
number_whole [] w x h e = omega arith
number_whole (a ∷ r) w x h e = let z : ⊥ = omega arith in absurd z

pub bytes_of_length : (k x : ℕ) → length (bytes_of k x) ≡ k
unfolding bytes_of
bytes_of_length zero x = refl
bytes_of_length (suc k) x = ap suc (bytes_of_length k (x / 256))

-- k bytes below 256, and none after them, make a number below 256 ^ k
pub number_lt : (k : ℕ) (bs : List ℕ) → length bs ≤ k → ((i : ℕ) → get_or bs i 0 < 256) → number bs < 256 ^ k
unfolding number
number_lt k [] h b = one-le-pow k 256 (omega arith)
number_lt zero (a ∷ bs) h b = let z : ⊥ = omega arith in absurd z
number_lt (suc k) (a ∷ bs) h b =
    let rest : number bs < 256 ^ k = number_lt k bs (le_of_suc-le-suc h) (λ i. b (suc i)) in
    omega (arith, pow-suc 256 k, b zero)

pub number_bytes_of : (k x : ℕ) → number (bytes_of k x) ≡ x % 256 ^ k
unfolding number bytes_of
number_bytes_of zero x = sym (mod-one x)
number_bytes_of (suc k) x =
    rw (pow-suc, number_bytes_of k (x / 256), mod-mul x (one-le-pow k 256 (omega arith)) (lit< tt)) (omega arith)

pub bytes_of_number : (bs : List ℕ) → ((i : ℕ) → get_or bs i 0 < 256) → bytes_of (length bs) (number bs) ≡ bs
unfolding number bytes_of
bytes_of_number [] b = refl
bytes_of_number (a ∷ bs) b =
    let low : (a + 256 * number bs) % 256 ≡ a = omega (arith, b zero) in
    let rest : (a + 256 * number bs) / 256 ≡ number bs = omega (arith, b zero) in
    cc (low, rest, bytes_of_number bs (λ i. b (suc i)))

-- what stands after a list is read as it was written
pub number_at_append : (k : ℕ) (a bs b : List ℕ) → length bs ≡ k → number_at k (a ++ bs ++ b) (length a) ≡ number bs
unfolding number_at
number_at_append k a bs b e = rw (append_assoc, drop-append_seam, take_at bs b k e)

pub number_at_bytes : (k x : ℕ) (a b : List ℕ) → number_at k (a ++ bytes_of k x ++ b) (length a) ≡ x % 256 ^ k
number_at_bytes k x a b = number_at_append k a (bytes_of k x) b (bytes_of_length k x) ∙ number_bytes_of k x

-- a byte past the end isn't written
pub sets_past_end : (vs l : List ℕ) (i : ℕ) → length l ≤ i → sets l i vs ≡ l
sets_past_end [] l i h = refl
sets_past_end (v ∷ vs) l i h = rw (set_out l i v h) (sets_past_end vs l (suc i) (omega arith))

-- one write after another is a write of both
pub sets_append : (a b l : List ℕ) (i : ℕ) → sets l i (a ++ b) ≡ sets (sets l i a) (i + length a) b
sets_append [] b l i = rw add-zero
sets_append (v ∷ a) b l i = rw add-suc (rw (← suc-add) (sets_append a b (set l i v) (suc i)))

-- each byte of a number is below 256, and 0 stands past them
pub bytes_of_lt : (k x i : ℕ) → get_or (bytes_of k x) i 0 < 256
unfolding bytes_of
bytes_of_lt zero x i = lit< tt
bytes_of_lt (suc k) x zero = mod-lt x (lit< tt)
bytes_of_lt (suc k) x (suc i) = bytes_of_lt k (x / 256) i

-- k bytes of a list of bytes make a number below 256 ^ k, wherever they stand
pub number_at_lt : (k : ℕ) (s : List ℕ) (i : ℕ) → ((j : ℕ) → get_or s j 0 < 256) → number_at k s i < 256 ^ k
number_at_lt zero s i b = rw number_at_zero (lit< tt)
number_at_lt (suc k) s i b = omega (arith, number_at_suc k s i, pow-suc 256 k, b i, number_at_lt k s (suc i) b)

-- ---- words one after the other

pub length_words_at : (s : List ℕ) (i k : ℕ) → length (words_at s i k) ≡ k
unfolding words_at
length_words_at s i zero = refl
length_words_at s i (suc k) = ap suc (length_words_at s (i + 8) k)

pub words_at_take : (k : ℕ) (s : List ℕ) (n i : ℕ) → i + 8 * k ≤ n → words_at (take n s) i k ≡ words_at s i k
unfolding words_at
words_at_take zero s n i h = refl
words_at_take (suc k) s n i h =
    ap₂ ◌∷◌ (number_at_take 8 s n i (omega arith)) (words_at_take k s n (i + 8) (omega arith))

pub length_word_bytes : (ws : List ℕ) → length (word_bytes ws) ≡ 8 * length ws
unfolding word_bytes
length_word_bytes [] = refl
length_word_bytes (w ∷ ws) =
    length-append (bytes_of 8 w) (word_bytes ws) ∙ omega (arith, bytes_of_length 8 w, length_word_bytes ws)
