-- The words of the marked chains of one row, written over a list's end: the start, the turn and the end of each loop over the bits
-- of a word of 64 marks, from the last chain on and from the first, and of the loop over the row's words. Assumes nothing.
use mathlib.Core.Path.{◌≡◌, refl, sym, ap, ap₂, subst, ◌∙◌}
use mathlib.Core.Logic.{dite}
use mathlib.Core.List.{List, [], ◌∷◌, ◌++◌, append_assoc, append-nil}
use Prim.Native.Nat.{ℕ, zero, suc, ◌+◌, ◌-◌, ◌*◌, ◌/◌, ◌%◌, ◌^◌, ◌≤◌, ◌<◌, min}
use native.Mathlib.Nat.{mod-lt, one-mul, div-eq_of_lt-le, pow-suc, pos_of_ne-zero, lt_of_lt_of_le, mod-eq_of_lt}
use native.Mathlib.Numerals.{add-one}
use native.Mathlib.Decide.{dec_le}
use native.Mathlib.Omega.{arith}
use lib.Bits.{bit_and, and_mask}
use lib.Count.{ones, count_leading_zeros, leading_top}
use lib.ListN.{length, take, drop, get_or, set, length-set, length-append, length-drop, take-append-drop}
use lib.Pow.{pow_pos, pow_mono, shl_exact, low}
use lib.Seq.{take-suc-set, append_snoc, take_all, take-length, drop-length, length-take-le, length_front, take-append-le, drop-append-le, get_or-drop}
use Rattle.word.specs.Word.{digit, low_mask, highest_bit}
use Rattle.numbers.specs.Bytes.{word_at}
use Rattle.numbers.specs.Joined.{joined}
use Rattle.word.proofs.Laws.{mod2_lt}
use Rattle.numbers.proofs.ByteLaws.{number_at_lt}
use Rattle.numbers.proofs.JoinLaws.{joined_ext}
use Rattle.rows.specs.Row.{cell}
use Rattle.rows.specs.Marks.{listed, total, marked_words, bits}
use Rattle.marked_words.specs.Back.{back}
use Rattle.marked_words.proofs.BackLaws.{rest, joined_rest, joined_none, rest_ext, rest_none, rest_whole, rest_add, rest_joined, joined_stops, back_fits, back_none, back_length, back_more, back_more_room}
use Rattle.word.proofs.LowestLaws.{digit_mod, digit_past, Lowest, below_lowest, above_lowest, lowest_gone}
use Rattle.word.proofs.MarkedLaws.{masked_below}
use Rattle.rows.proofs.DigitLaws.{word_cell}
use Rattle.marked_rows.proofs.CountLaws.{total_digits}
use Rattle.rows.proofs.MarkLaws.{length_listed}

-- ---- the marks of 64 chains

-- the highest bit of a word and the power of two at it
pub record Topped (w k : ℕ) : Type 0 where
  pub place : k < 64
  pub least : 2 ^ k ≤ w
  pub most : w < 2 ^ suc k

pub highest_tops : (w k : ℕ) → (w ≡ 0 → ⊥) → w < 2 ^ 64 → k ≡ highest_bit w → Topped w k
unfolding highest_bit
highest_tops w k n h e =
    let t = leading_top 64 w (pos_of_ne-zero n) h in
    let same : k ≡ t.0 = here (count_leading_zeros 64 w) t.0 t.1 e in
    record {
      place = small (count_leading_zeros 64 w) t.0 t.1 same;
      least = subst (λ (x : ℕ). 2 ^ x ≤ w) (sym same) t.2;
      most = subst (λ (x : ℕ). w < 2 ^ suc x) (sym same) t.3;
    }
  where
    here : (z j : ℕ) → z + suc j ≡ 64 → k ≡ 63 - z → k ≡ j
    here z j s f = omega arith

    small : (z j : ℕ) → z + suc j ≡ 64 → k ≡ j → k < 64
    small z j s f = omega arith

pub top_power : (w k : ℕ) → Topped w k → (1 * 2 ^ k) % 18446744073709551616 ≡ 2 ^ k
top_power w k t = let p : k < 64 = t.place in shl_exact {a = 1} 1 k 64 (omega arith) (omega arith) ∙ one-mul (2 ^ k)

length_chosen : (ws : List ℕ) (x : ℕ → ℕ) (n : ℕ) → ((d : ℕ) → x d < 2) → length (marked_words ws x n) ≡ total n x
unfolding joined total
length_chosen ws x zero h = refl
length_chosen ws x (suc n) h =
    length-append (marked_words ws x n) (listed (x n) (get_or ws n 0)) ∙ ap₂ ◌+◌ (length_chosen ws x n h) (length_listed (x n) (get_or ws n 0) (h n))

module _ (ws : List ℕ) where
  abbrev marked : ℕ → ℕ → List ℕ
  marked w d = listed (digit d w) (get_or ws d 0)

  -- the words of the chains whose bit is 1
  pub words_of : ℕ → List ℕ
  words_of w = marked_words ws (bits w) 64

  pub words_of_lem : (w : ℕ) → words_of w ≡ marked_words ws (bits w) 64
  unfolding words_of
  words_of_lem w = refl

  -- bits from place k on, all 0, choose nothing
  words_below_lem : (w k : ℕ) → k ≤ 64 → w < 2 ^ k → words_of w ≡ joined (marked w) k
  unfolding words_of
  words_below_lem w k h l =
      let whole : 64 ≡ k + (64 - k) = omega arith in
      ap (joined (marked w)) whole
      ∙ joined_stops (marked w) k (64 - k) (λ d m. ap (λ (x : ℕ). listed x (get_or ws d 0)) (digit_past k w d l m))

  words_of_none : words_of 0 ≡ []
  unfolding joined
  words_of_none = words_below_lem 0 0 (omega arith) (omega arith)

  marked_last : (w k : ℕ) → joined (marked w) (suc k) ≡ joined (marked w) k ++ marked w k
  unfolding joined
  marked_last w k = refl

  -- the highest bit chooses the last word
  words_of_top : (w k : ℕ) → Topped w k → words_of w ≡ words_of (w - 2 ^ k) ++ get_or ws k 0 ∷ []
  words_of_top w k t =
      let p : k < 64 = t.place in
      let least : 2 ^ k ≤ w = t.least in
      let most : w < 2 ^ suc k = t.most in
      let below : w - 2 ^ k < 2 ^ k = omega (arith, pow-suc 2 k) in
      let parts : w ≡ 1 * 2 ^ k + (w - 2 ^ k) = omega arith in
      let less : w % 2 ^ k ≡ w - 2 ^ k = ap (λ (x : ℕ). x % 2 ^ k) parts ∙ low 1 k below in
      let one : w / 2 ^ k ≡ 1 = div-eq_of_lt-le (2 ^ k) (omega arith) (omega (arith, pow-suc 2 k)) in
      words_below_lem w (suc k) p most ∙ marked_last w k
      ∙ ap₂ (λ (x : List ℕ) (d : ℕ). x ++ listed (d % 2) (get_or ws k 0))
      (sym
      (words_below_lem (w - 2 ^ k) k (omega arith) below
      ∙ joined_ext (marked (w - 2 ^ k)) (marked w) k
      (λ d l. ap (λ (x : ℕ). listed x (get_or ws d 0)) (ap (digit d) (sym less) ∙ digit_mod k w d l))))
      one

  -- the lowest bit chooses the first word
  words_of_low : (w k : ℕ) → Lowest w k → words_of w ≡ get_or ws k 0 ∷ words_of (bit_and w (w - 1))
  unfolding words_of
  words_of_low w k t =
      let p : k < 64 = t.place in
      let whole : suc k + (63 - k) ≡ 64 = omega arith in
      let before : joined (marked w) k ≡ [] = joined_none (marked w) k (λ d l. ap (λ (x : ℕ). listed x (get_or ws d 0)) (below_lowest w k t d l)) in
      let gone : joined (marked (bit_and w (w - 1))) (suc k) ≡ [] =
      joined_none (marked (bit_and w (w - 1))) (suc k) (λ d l. ap (λ (x : ℕ). listed x (get_or ws d 0)) (lowest_gone w k t d l)) in
      sym (joined_rest (marked w) (suc k) (63 - k) ∙ ap (joined (marked w)) whole)
      ∙ ap₂ (λ (x y : List ℕ). x ++ y)
      (marked_last w k ∙ ap₂ (λ (x : List ℕ) (d : ℕ). x ++ listed d (get_or ws k 0)) before t.one)
      (rest_ext (marked w) (marked (bit_and w (w - 1))) (suc k) (63 - k)
      (λ d l. ap (λ (x : ℕ). listed x (get_or ws d 0)) (sym (above_lowest w k t d l))))
      ∙ ap (λ (x : List ℕ). get_or ws k 0 ∷ x)
      (sym (ap (λ (x : List ℕ). x ++ rest (marked (bit_and w (w - 1))) (suc k) (63 - k)) gone)
      ∙ joined_rest (marked (bit_and w (w - 1))) (suc k) (63 - k) ∙ ap (joined (marked (bit_and w (w - 1)))) whole)

  pub words_of_length : (w : ℕ) → w < 2 ^ 64 → length (words_of w) ≡ ones w
  unfolding words_of
  words_of_length w h = length_chosen ws (bits w) 64 (λ d. mod2_lt (w / 2 ^ d)) ∙ total_digits 64 w h

  -- what the loop from the first chain on knows: with the words of the bits that are left, the first `place` places make the list
  pub Putting : ℕ → List ℕ → List ℕ → ℕ → ℕ → Type 0
  Putting marks l₀ l place left =
      (length l ≡ length l₀) × (place + length (words_of left) ≡ length l₀) × (take place l ++ words_of left ≡ back (words_of marks) l₀)

  pub putting_starts : (marks : ℕ) (l : List ℕ) (start : ℕ) → marks < 2 ^ 64 → ones marks ≤ length l → start ≡ length l - ones marks
      → Putting marks l l start marks
  unfolding Putting
  putting_starts marks l start h m e =
      let long : length (words_of marks) ≡ ones marks = words_of_length marks h in
      let begin : start ≡ length l - length (words_of marks) = omega arith in (
        refl,
        omega arith,
        ap (λ (i : ℕ). take i l ++ words_of marks) begin ∙ sym (back_fits (words_of marks) l (omega arith)),
      )

  pub putting_place : (marks : ℕ) (l : List ℕ) (start : ℕ) → marks < 2 ^ 64 → start ≡ length l - ones marks
      → start ≡ length l - length (marked_words ws (bits marks) 64)
  putting_place marks l start h e = e ∙ ap (λ (x : ℕ). length l - x) (sym (words_of_length marks h) ∙ ap length (words_of_lem marks))

  pub putting_room : (marks : ℕ) (l₀ l : List ℕ) (place left low : ℕ) → Putting marks l₀ l place left → Lowest left low → place < length l
  unfolding Putting
  putting_room marks l₀ l place left low p t = omega (arith, p.0, p.1, ap length (words_of_low left low t))

  pub putting_long : (marks : ℕ) (l₀ l : List ℕ) (place left : ℕ) → Putting marks l₀ l place left → length l ≡ length l₀
  unfolding Putting
  putting_long marks l₀ l place left p = p.0

  pub putting_turns : (marks : ℕ) (l₀ l : List ℕ) (place left low w : ℕ) → Putting marks l₀ l place left → Lowest left low → w ≡ get_or ws low 0
      → Putting marks l₀ (set l place w) (place + 1) (bit_and left (left - 1))
  unfolding Putting
  putting_turns marks l₀ l place left low w p t ew =
      let words : words_of left ≡ w ∷ words_of (bit_and left (left - 1)) =
      words_of_low left low t ∙ ap (λ (x : ℕ). x ∷ words_of (bit_and left (left - 1))) (sym ew) in
      let room : place < length l = omega (arith, p.0, p.1, ap length words) in (
        length-set l place w ∙ p.0,
        omega (arith, p.1, ap length words),
        ap (λ (i : ℕ). take i (set l place w) ++ words_of (bit_and left (left - 1))) (add-one place)
            ∙ ap (λ (x : List ℕ). x ++ words_of (bit_and left (left - 1))) (take-suc-set l place w room)
            ∙ append_snoc (take place l) w (words_of (bit_and left (left - 1))) ∙ ap (λ (x : List ℕ). take place l ++ x) (sym words) ∙ p.2,
      )

  pub putting_ends : (marks : ℕ) (l₀ l : List ℕ) (place left : ℕ) → Putting marks l₀ l place left → left ≡ 0
      → l ≡ back (marked_words ws (bits marks) 64) l₀
  unfolding Putting
  putting_ends marks l₀ l place left p e =
      let none : words_of left ≡ [] = ap words_of e ∙ words_of_none in
      let all : length l ≤ place = omega (arith, p.0, p.1, ap length none) in
      sym (ap₂ (λ (x y : List ℕ). x ++ y) (take_all place l all) none ∙ append-nil l) ∙ p.2 ∙ ap (λ (x : List ℕ). back x l₀) (words_of_lem marks)

  -- what the loop from the last chain on knows: written over the end of the first `place` places, the words of the bits that are left make the list
  pub Taking : ℕ → List ℕ → List ℕ → ℕ → ℕ → Type 0
  Taking marks l₀ l place left =
      (place ≤ length l)
      × (length l ≡ length l₀)
      × (place - length (words_of left) ≡ length l₀ - length (words_of marks))
      × (back (words_of left) (take place l) ++ drop place l ≡ back (words_of marks) l₀)

  pub taking_room : (marks : ℕ) (l₀ l : List ℕ) (place left : ℕ) → Taking marks l₀ l place left → (length l ≡ length l₀) × (place ≤ length l)
  unfolding Taking
  taking_room marks l₀ l place left k = (k.1, k.0)

  pub taking_starts : (marks : ℕ) (l : List ℕ) → Taking marks l l (length l) marks
  unfolding Taking
  taking_starts marks l = (
    omega arith,
    refl,
    refl,
    ap₂ (λ (x y : List ℕ). back (words_of marks) x ++ y) (take-length l) (drop-length l) ∙ append-nil (back (words_of marks) l),
  )

  pub taking_turns : (marks : ℕ) (l₀ l l' : List ℕ) (place place' left left' top w : ℕ) → Taking marks l₀ l place left → Topped left top
      → w ≡ get_or ws top 0 → left' ≡ left - 2 ^ top → place' ≡ length (take place l) - 1 → l' ≡ back (w ∷ []) (take place l) ++ drop place l
      → Taking marks l₀ l' place' left'
  unfolding Taking
  taking_turns marks l₀ l l' place place' left left' top w k t ew ef ep el = (
    omega (arith, long, here),
    long ∙ k.1,
    room,
    ap (λ (x : List ℕ). back (words_of left') (take place' x) ++ drop place' x) el
        ∙ ap₂ (λ (x y : List ℕ). back (words_of left') x ++ y) (take-append-le place' part (drop place l) fits) (drop-append-le place' part (drop place l) fits)
        ∙ sym (append_assoc (back (words_of left') (take place' part)) (drop place' part) (drop place l))
        ∙ ap (λ (x : List ℕ). x ++ drop place l) (back_more (words_of left') (w ∷ []) (take place l) place' ep)
        ∙ ap (λ (x : List ℕ). back x (take place l) ++ drop place l) (sym words)
        ∙ k.3,
  )
    where
      part : List ℕ
      part = back (w ∷ []) (take place l)

      here : length (take place l) ≡ place
      here = length-take-le place l k.0

      part_long : length part ≡ place
      part_long = back_length (w ∷ []) (take place l) ∙ here

      fits : place' ≤ length part
      fits = omega (arith, ep, part_long, here)

      long : length l' ≡ length l
      long = ap length el ∙ length_front l part place (part_long ∙ sym here)

      words : words_of left ≡ words_of left' ++ w ∷ []
      words = words_of_top left top t ∙ ap₂ (λ (x y : ℕ). words_of x ++ y ∷ []) (sym ef) (sym ew)

      room : place' - length (words_of left') ≡ length l₀ - length (words_of marks)
      room = omega (arith, ep, here, k.2, ap length words ∙ length-append (words_of left') (w ∷ []))

  pub taking_ends : (marks : ℕ) (l₀ l : List ℕ) (place left : ℕ) → Taking marks l₀ l place left → left ≡ 0
      → (place ≡ length l₀ - length (marked_words ws (bits marks) 64)) × (l ≡ back (marked_words ws (bits marks) 64) l₀)
  unfolding Taking
  taking_ends marks l₀ l place left k e =
      let none : words_of left ≡ [] = ap words_of e ∙ words_of_none in (
        omega (arith, k.2, ap length none) ∙ ap (λ (x : List ℕ). length l₀ - length x) (words_of_lem marks),
        sym (take-append-drop place l) ∙ ap (λ (x : List ℕ). x ++ drop place l) (sym (back_none (take place l)))
            ∙ ap (λ (x : List ℕ). back x (take place l) ++ drop place l) (sym none) ∙ k.3
            ∙ ap (λ (x : List ℕ). back x l₀) (words_of_lem marks),
      )

-- ---- a row, by words of 64 chains

-- the mask of 64 chains or more leaves a word as it is
whole_mask : (w n : ℕ) → 64 ≤ n → w < 2 ^ 64 → w ≡ bit_and w (low_mask n)
unfolding low_mask
whole_mask w n h l =
    let full : min n 64 ≡ 64 = omega arith in sym (and_mask w (min n 64) ∙ ap (λ (x : ℕ). w % 2 ^ x) full ∙ mod-eq_of_lt l)

-- marks within the words that are lent for them: masked ones, and those of 64 chains
module _ (ws : List ℕ) (n : ℕ) where
  pub lent_long : length (take (length ws - n) (drop n ws)) ≡ length ws - n
  lent_long = length-take-le (length ws - n) (drop n ws) (omega (arith, length-drop n ws))

  pub marks_inside : (w mask : ℕ) → mask ≡ low_mask (length ws - n) → bit_and w mask < 2 ^ length (take (length ws - n) (drop n ws))
  marks_inside w mask e = (masked_below (take (length ws - n) (drop n ws)) w mask (e ∙ ap low_mask (sym lent_long))).1

  pub masked_inside : (w : ℕ) → bit_and w (low_mask (length ws - n)) < 2 ^ (length ws - n)
  masked_inside w = subst (λ (k : ℕ). bit_and w (low_mask (length ws - n)) < 2 ^ k) lent_long (marks_inside w (low_mask (length ws - n)) refl)

-- a word whose 64 chains are all there
module _ (row : List ℕ) (bytes : (j : ℕ) → get_or row j 0 < 256) (n i : ℕ) (whole : 64 * i + 64 ≤ n) where
  pub word_inside : word_at row (8 * i) < 2 ^ (n - 64 * i)
  word_inside = let some : 64 ≤ n - 64 * i = omega arith in lt_of_lt_of_le (number_at_lt 8 row (8 * i) bytes) (pow_mono some)

  pub word_unmasked : word_at row (8 * i) ≡ bit_and (word_at row (8 * i)) (low_mask (n - 64 * i))
  word_unmasked = whole_mask (word_at row (8 * i)) (n - 64 * i) (omega arith) (number_at_lt 8 row (8 * i) bytes)

module _ (ws row : List ℕ) where
  abbrev word : ℕ → List ℕ
  word d = listed (cell row d) (get_or ws d 0)

  -- the words of the chains from c on
  pub words_from : ℕ → List ℕ
  words_from c = rest word c (length ws - c)

  pub words_from_end : (c : ℕ) → length ws ≤ c → words_from c ≡ []
  unfolding words_from
  words_from_end c h = let none : length ws - c ≡ 0 = omega arith in ap (rest word c) none ∙ rest_none word c

  words_from_start : words_from 0 ≡ marked_words ws (cell row) (length ws)
  unfolding words_from
  words_from_start = let all : length ws - 0 ≡ length ws = omega arith in ap (rest word 0) all ∙ rest_whole word (length ws)

  -- the words before the chain c, and those from it on
  pub words_split : (c : ℕ) → c ≤ length ws → marked_words ws (cell row) (length ws) ≡ marked_words ws (cell row) c ++ words_from c
  unfolding words_from
  words_split c h =
      let whole : length ws ≡ c + (length ws - c) = omega arith in ap (joined word) whole ∙ sym (joined_rest word c (length ws - c))

  -- the words from c on, the first j of them apart
  words_from_parts : (c j : ℕ) → c + j ≤ length ws → words_from c ≡ joined (λ d. word (c + d)) j ++ words_from (c + j)
  unfolding words_from
  words_from_parts c j h =
      let whole : length ws - c ≡ j + (length ws - (c + j)) = omega arith in
      ap (rest word c) whole ∙ rest_add word c j (length ws - (c + j))
      ∙ ap (λ (x : List ℕ). x ++ rest word (c + j) (length ws - (c + j))) (rest_joined word c j)

  module _ (bytes : (i : ℕ) → get_or row i 0 < 256) (i mask marks : ℕ) (h : 64 * i < length ws) (em : mask ≡ low_mask (length ws - 64 * i)) (ek : marks ≡ bit_and (word_at row (8 * i)) mask) where
    -- the chains that the word's bits stand for
    many : ℕ
    many = min (length ws - 64 * i) 64

    masked : marks ≡ word_at row (8 * i) % 2 ^ many
    unfolding low_mask many
    masked = ek ∙ ap (bit_and (word_at row (8 * i))) em ∙ and_mask (word_at row (8 * i)) (min (length ws - 64 * i) 64)

    marked_word : (d : ℕ) → d < many → marked (drop (64 * i) ws) marks d ≡ word (64 * i + d)
    unfolding many
    marked_word d l =
        ap₂ listed (ap (digit d) masked ∙ digit_mod many (word_at row (8 * i)) d l ∙ word_cell row bytes i d (omega arith)) (get_or-drop (64 * i) ws d 0)

    word_first : marked_words (drop (64 * i) ws) (bits marks) 64 ≡ joined (λ d. word (64 * i + d)) many
    unfolding many
    word_first =
        sym (words_of_lem (drop (64 * i) ws) marks)
        ∙ words_below_lem (drop (64 * i) ws) marks many (omega arith) (rw masked (mod-lt (word_at row (8 * i)) (pow_pos many)))
        ∙ joined_ext (marked (drop (64 * i) ws) marks) (λ d. word (64 * i + d)) many marked_word

    word_rest : words_from (64 * i + many) ≡ words_from (64 * i + 64)
    unfolding many
    word_rest =
        dite (dec_le 64 (length ws - 64 * i))
        (λ (l : 64 ≤ length ws - 64 * i). let full : 64 * i + min (length ws - 64 * i) 64 ≡ 64 * i + 64 = omega arith in ap words_from full)
        (λ (l : 64 ≤ length ws - 64 * i → ⊥). words_from_end (64 * i + min (length ws - 64 * i) 64) (omega arith) ∙ sym (words_from_end (64 * i + 64) (omega arith)))

    words_from_word : words_from (64 * i) ≡ marked_words (drop (64 * i) ws) (bits marks) 64 ++ words_from (64 * i + 64)
    unfolding many
    words_from_word = words_from_parts (64 * i) many (omega arith) ∙ ap₂ (λ (x y : List ℕ). x ++ y) (sym word_first) word_rest

    pub marks_small : marks < 2 ^ 64
    unfolding many
    marks_small =
        let below : marks < 2 ^ many = rw masked (mod-lt (word_at row (8 * i)) (pow_pos many)) in
        let most : many ≤ 64 = omega arith in
        lt_of_lt_of_le below (pow_mono most)

  -- the words from a word of 64 chains on, and that it has one for each of its marks; vs are the words that it is lent
  module _ (bytes : (i : ℕ) → get_or row i 0 < 256) (vs : List ℕ) (i mask marks : ℕ) (h : 0 < i) (m : 64 * (i - 1) < length ws)
      (em : mask ≡ low_mask (length ws - 64 * (i - 1))) (ek : marks ≡ bit_and (word_at row (8 * (i - 1))) mask)
      (ev : vs ≡ take (length ws - 64 * (i - 1)) (drop (64 * (i - 1)) ws)) where
    pub one_word_more : words_from (64 * (i - 1)) ≡ marked_words vs (bits marks) 64 ++ words_from (64 * i)
    one_word_more =
        let next : 64 * (i - 1) + 64 ≡ 64 * i = omega arith in
        let lent : drop (64 * (i - 1)) ws ≡ vs =
        sym (ev ∙ take_all (length ws - 64 * (i - 1)) (drop (64 * (i - 1)) ws) (omega (arith, length-drop (64 * (i - 1)) ws)))
        in
        words_from_word bytes (i - 1) mask marks m em ek
        ∙ ap₂ (λ (x : List ℕ) (y : ℕ). marked_words x (bits marks) 64 ++ words_from y) lent next

    pub word_length : length (marked_words vs (bits marks) 64) ≡ ones marks
    word_length = ap length (sym (words_of_lem vs marks)) ∙ words_of_length vs marks (marks_small bytes (i - 1) mask marks m em ek)

  -- what the loop knows: the words of the chains from c on stand at the list's end, and `place` places before them
  pub Listing : List ℕ → List ℕ → ℕ → ℕ → Type 0
  Listing l₀ l place c = (place ≡ length l₀ - length (words_from c)) × (l ≡ back (words_from c) l₀)

  pub listing_known : (l₀ l : List ℕ) (place c : ℕ) → Listing l₀ l place c → (place ≡ length l₀ - length (words_from c)) × (l ≡ back (words_from c) l₀)
  unfolding Listing
  listing_known l₀ l place c k = k

  pub listing_room : (l₀ l : List ℕ) (place c : ℕ) → Listing l₀ l place c → (length l ≡ length l₀) × (place ≤ length l)
  unfolding Listing
  listing_room l₀ l place c k =
      let same : length l ≡ length l₀ = ap length k.1 ∙ back_length (words_from c) l₀ in (same, omega arith)

  pub listing_starts : (l : List ℕ) (c : ℕ) → length ws ≤ c → Listing l l (length l) c
  unfolding Listing
  listing_starts l c h = (rw (words_from_end c h) (omega arith), rw (words_from_end c h) (sym (back_none l)))

  pub listing_turns : ((i : ℕ) → get_or row i 0 < 256) → (l₀ l l' vs : List ℕ) (place place' i mask marks : ℕ) → Listing l₀ l place (64 * i) → 0 < i
      → 64 * (i - 1) < length ws → mask ≡ low_mask (length ws - 64 * (i - 1)) → marks ≡ bit_and (word_at row (8 * (i - 1))) mask
      → vs ≡ take (length ws - 64 * (i - 1)) (drop (64 * (i - 1)) ws)
      → place' ≡ length (take place l) - length (marked_words vs (bits marks) 64)
      → l' ≡ back (marked_words vs (bits marks) 64) (take place l) ++ drop place l
      → Listing l₀ l' place' (64 * (i - 1))
  unfolding Listing
  listing_turns bytes l₀ l l' vs place place' i mask marks k h m em ek ev ep el = (
    ep ∙ ap (λ (x : List ℕ). length (take place x) - length mine) k.1
        ∙ back_more_room mine (words_from (64 * i)) l₀ place k.0
        ∙ ap (λ (x : List ℕ). length l₀ - length x) (sym (one_word_more bytes vs i mask marks h m em ek ev)),
    el ∙ ap (λ (x : List ℕ). back mine (take place x) ++ drop place x) k.1
        ∙ back_more mine (words_from (64 * i)) l₀ place k.0
        ∙ ap (λ (x : List ℕ). back x l₀) (sym (one_word_more bytes vs i mask marks h m em ek ev)),
  )
    where
      mine : List ℕ
      mine = marked_words vs (bits marks) 64

  pub listing_ends : (l₀ l : List ℕ) (place c : ℕ) → Listing l₀ l place c → c ≡ 0
      → (place ≡ length l₀ - length (marked_words ws (cell row) (length ws))) × (l ≡ back (marked_words ws (cell row) (length ws)) l₀)
  unfolding Listing
  listing_ends l₀ l place c k e = let whole : words_from c ≡ marked_words ws (cell row) (length ws) = ap words_from e ∙ words_from_start in rw (← whole) k
