-- Parts of a file: what is written at a place is read back there, and what is read there is written back as it stood.
--
--   number_back     a number that fits its bytes is read back where they begin
--   words_back      words that fit 8 bytes are read back where theirs begin
--   word_at_place   word j of k words from place i is the word at place i + 8 * j
--   number_to_end   of two numbers that reach the end of the list neither sees a byte more
--   pow_bytes       k bytes hold 8 * k bits
--   part_small      a part of a list of bytes is one
--   number_bytes    the bytes of a number that was read are those it was read from
--   words_bytes     .. and so are those of k words
--   part_joins      a part and what follows it
--   sets_parts      a write of two parts, the second of which begins at place j
--   front_sets      a write from place 0 on, where it fits
-- Assumes nothing.
use mathlib.Core.Path.{◌≡◌, refl, sym, ap, ap₂, ◌∙◌}
use mathlib.Core.List.{List, [], ◌∷◌, ◌++◌, append_assoc}
use Prim.Native.Nat.{ℕ, zero, suc, ◌+◌, ◌*◌, ◌^◌, ◌<◌, ◌≤◌}
use native.Mathlib.Nat.{mod-eq_of_lt, pow-suc, zero-add, not-suc-le-zero, le_of_suc-le-suc}
use native.Mathlib.Omega.{arith}
use lib.Dec.{lit<}
use lib.ListN.{length, take, drop, get_or, length-append, length-take, length-drop, take-append-drop}
use lib.Pow.{pow-add}
use lib.Seq.{take_all, take-add, drop-drop, get_or-drop, sets, sets-eq}
use Rattle.numbers.specs.Bytes.{number, number_at, word_at, words_at, bytes_of, word_bytes}
use Rattle.word.specs.Reply.{front}
use Rattle.numbers.proofs.ByteLaws.{bytes_of_length, number_at_bytes, bytes_of_number, sets_append}

-- ---- what is written is read back

pub number_back : (k x : ℕ) (a b : List ℕ) (i : ℕ) → length a ≡ i → x < 256 ^ k → number_at k (a ++ (bytes_of k x ++ b)) i ≡ x
number_back k x a b i e h =
    ap₂ (λ (s : List ℕ) (n : ℕ). number_at k s n) (sym (append_assoc a (bytes_of k x) b)) (sym e)
    ∙ number_at_bytes k x a b ∙ mod-eq_of_lt h

pub words_back : (ws a b : List ℕ) (i : ℕ) → length a ≡ i → ((j : ℕ) → get_or ws j 0 < 256 ^ 8) → words_at (a ++ (word_bytes ws ++ b)) i (length ws) ≡ ws
unfolding words_at word_bytes
words_back [] a b i e h = refl
words_back (w ∷ ws) a b i e h =
    let first : a ++ (bytes_of 8 w ++ word_bytes ws ++ b) ≡ a ++ (bytes_of 8 w ++ (word_bytes ws ++ b)) =
    ap (λ (l : List ℕ). a ++ l) (append_assoc (bytes_of 8 w) (word_bytes ws) b)
    in
    let later : a ++ (bytes_of 8 w ++ word_bytes ws ++ b) ≡ a ++ bytes_of 8 w ++ (word_bytes ws ++ b) =
    first ∙ sym (append_assoc a (bytes_of 8 w) (word_bytes ws ++ b))
    in
    let long : length (a ++ bytes_of 8 w) ≡ i + 8 = length-append a (bytes_of 8 w) ∙ omega (arith, bytes_of_length 8 w) in
    ap₂ (λ (x : ℕ) (l : List ℕ). x ∷ l)
    (ap (λ (s : List ℕ). word_at s i) first ∙ number_back 8 w a (word_bytes ws ++ b) i e (h zero))
    (ap (λ (s : List ℕ). words_at s (i + 8) (length ws)) later ∙ words_back ws (a ++ bytes_of 8 w) b (i + 8) long (λ j. h (suc j)))

-- ---- numbers at a place

pub word_at_place : (s : List ℕ) (i k j : ℕ) → j < k → get_or (words_at s i k) j 0 ≡ word_at s (i + 8 * j)
unfolding words_at
word_at_place s i zero j h = absurd (not-suc-le-zero h)
word_at_place s i (suc k) zero h = ap (word_at s) (omega arith)
word_at_place s i (suc k) (suc j) h =
    word_at_place s (i + 8) k j (le_of_suc-le-suc h) ∙ ap (word_at s) (omega arith)

pub number_to_end : (j k : ℕ) (s : List ℕ) (i : ℕ) → length s ≤ i + j → length s ≤ i + k → number_at j s i ≡ number_at k s i
unfolding number_at
number_to_end j k s i a b =
    let short : length (drop i s) ≤ j = omega (arith, length-drop i s) in
    let short' : length (drop i s) ≤ k = omega (arith, length-drop i s) in
    ap number (take_all j (drop i s) short ∙ sym (take_all k (drop i s) short'))

pub pow_bytes : (k : ℕ) → 256 ^ k ≡ 2 ^ (8 * k)
pow_bytes zero = refl
pow_bytes (suc k) =
    let split : 8 * suc k ≡ 8 * k + 8 = omega arith in
    pow-suc 256 k ∙ ap (λ (x : ℕ). x * 256) (pow_bytes k) ∙ sym (ap (λ (x : ℕ). 2 ^ x) split ∙ pow-add 2 (8 * k) 8)

-- ---- what is read is written back

take_small : (k : ℕ) (l : List ℕ) → ((j : ℕ) → get_or l j 0 < 256) → (j : ℕ) → get_or (take k l) j 0 < 256
take_small zero l h j = lit< tt
take_small (suc k) [] h j = lit< tt
take_small (suc k) (x ∷ l) h zero = h zero
take_small (suc k) (x ∷ l) h (suc j) = take_small k l (λ i. h (suc i)) j

module _ (s : List ℕ) (small : (i : ℕ) → get_or s i 0 < 256) where
  pub part_small : (i k j : ℕ) → get_or (take k (drop i s)) j 0 < 256
  part_small i k j = take_small k (drop i s) (λ n. rw get_or-drop (small (i + n))) j

  pub number_bytes : (k i : ℕ) → i + k ≤ length s → bytes_of k (number_at k s i) ≡ take k (drop i s)
  unfolding number_at
  number_bytes k i h =
      let long : length (take k (drop i s)) ≡ k = length-take k (drop i s) ∙ omega (arith, length-drop i s) in
      ap (λ (n : ℕ). bytes_of n (number (take k (drop i s)))) (sym long) ∙ bytes_of_number (take k (drop i s)) (part_small i k)

  pub words_bytes : (k i : ℕ) → i + 8 * k ≤ length s → word_bytes (words_at s i k) ≡ take (8 * k) (drop i s)
  unfolding word_bytes words_at
  words_bytes zero i h = refl
  words_bytes (suc k) i h =
      let more : 8 * suc k ≡ 8 + 8 * k = omega arith in
      ap₂ (λ (a b : List ℕ). a ++ b) (number_bytes 8 i (omega arith)) (words_bytes k (i + 8) (omega arith))
      ∙ ap (λ (l : List ℕ). take 8 (drop i s) ++ take (8 * k) l) (sym (drop-drop 8 i s))
      ∙ sym (take-add 8 (8 * k) (drop i s)) ∙ ap (λ (n : ℕ). take n (drop i s)) (sym more)

pub part_joins : (s : List ℕ) (i n j : ℕ) → i + n ≡ j → take n (drop i s) ++ drop j s ≡ drop i s
part_joins s i n j e =
    ap (λ (x : ℕ). take n (drop i s) ++ drop x s) (sym e)
    ∙ ap (λ (l : List ℕ). take n (drop i s) ++ l) (sym (drop-drop n i s)) ∙ take-append-drop n (drop i s)

-- ---- parts written one after the other

pub sets_parts : (a b l : List ℕ) (i j : ℕ) → i + length a ≡ j → sets l i (a ++ b) ≡ sets (sets l i a) j b
sets_parts a b l i j e = sets_append a b l i ∙ ap (λ (n : ℕ). sets (sets l i a) n b) e

pub front_sets : (vs l : List ℕ) → length vs ≤ length l → sets l 0 vs ≡ front vs l
unfolding front
front_sets vs l h =
    sets-eq vs l 0 (omega arith) ∙ ap (λ (n : ℕ). vs ++ drop n l) (zero-add (length vs))
