-- The marks of rows put together byte by byte. Assumes nothing.
use mathlib.Core.Path.{◌≡◌, refl, sym, ap, ap₂, ◌∙◌, subst}
use mathlib.Core.Logic.{dite}
use mathlib.Core.List.{List, [], ◌∷◌, ◌++◌}
use Prim.Native.Nat.{ℕ, zero, suc, ◌+◌, ◌-◌, ◌*◌, ◌/◌, ◌%◌, ◌^◌, ◌≤◌, ◌<◌, min, max}
use native.Mathlib.Nat.{mul-le-mul_left, mul-suc}
use native.Mathlib.Numerals.{add-one}
use native.Mathlib.Decide.{dec_lt}
use native.Mathlib.Omega.{arith}
use mathlib.Core.Bool.{not}
use borrow.Author.Tests.{eqb-true, not-false}
use lib.Dec.{eqb}
use Rattle.word.specs.Some.{any_below}
use Rattle.word.proofs.SomeLaws.{any_below_false}
use lib.Bits.{bit_xor, bit_and, and_mask, xor_add_and, and_shr, and_step, bit_or, or_step, or_shr}
use lib.ListN.{length, get_or, take, drop, set, length-set, replicate, get_or-replicate, get_or-eq_default}
use lib.Seq.{sets, get_or-drop, get_or-set_same, get_or-set_other}
use Rattle.word.specs.Word.{digit}
use Rattle.word.specs.Zeros.{zeros}
use Rattle.word.specs.Reply.{front}
use Rattle.word.proofs.Laws.{mod2_lt, digit_xor}
use Rattle.word.proofs.LowestLaws.{digit_past}
use Rattle.word.proofs.FrontLaws.{length_zeros}
use Rattle.rows.specs.Row.{cell}
use Rattle.rows.specs.Lists.{row_of, cells_of}
use Rattle.rows.specs.declared.Rows.{Rows}
use Rattle.numbers.specs.Bytes.{word_at, words_at, bytes_of, word_bytes}
use Rattle.numbers.proofs.ByteLaws.{number_in_part, length_word_bytes, bytes_of_lt}
use Rattle.numbers.proofs.FileLaws.{word_at_place, words_back, front_sets, part_small}
use Rattle.rows.proofs.CellLaws.{cell_lt}
use Rattle.rows.proofs.DigitLaws.{word_cell}
use Rattle.joint_marks.specs.Joint.{without, joint_marks, UnmarkedWords, JointWords}

-- ---- a row's marks put to others

digit_or : (i a b : ℕ) → digit i (bit_or a b) ≡ max (digit i a) (digit i b)
digit_or i a b = ap (λ (x : ℕ). x % 2) (or_shr a b i) ∙ omega (arith, or_step (a / 2 ^ i) (b / 2 ^ i))

-- what f has at the places before i was put to what they held, by g, and the others are as they were
pub record Adding (g : ℕ → ℕ → ℕ) (f : ℕ → ℕ) (l l' : List ℕ) (i : ℕ) : Type 0 where
  pub long : length l' ≡ length l
  pub done : (j : ℕ) → j < i → get_or l' j 0 ≡ g (get_or l j 0) (f j)
  pub rest : (j : ℕ) → i ≤ j → get_or l' j 0 ≡ get_or l j 0

module _ (g : ℕ → ℕ → ℕ) (f : ℕ → ℕ) (l : List ℕ) where
  pub adding_start : Adding g f l l 0
  adding_start = record { long = refl; done = λ j h. (let no : ⊥ = omega arith in absurd no); rest = λ j h. refl }

  pub adding_turn : (l' : List ℕ) (i v : ℕ) → Adding g f l l' i → i < length l → v ≡ f i → Adding g f l (set l' i (g (get_or l' i 0) v)) (i + 1)
  adding_turn l' i v a h ev = record {
    long = length-set l' i (g (get_or l' i 0) v) ∙ a.long;
    done = λ j b. dite (dec_lt j i)
        (λ (below : j < i). get_or-set_other l' i j (g (get_or l' i 0) v) 0 (λ (e : j ≡ i). omega arith) ∙ a.done j below)
        (λ (n : j < i → ⊥).
        let same : j ≡ i = omega arith in
        ap (λ (k : ℕ). get_or (set l' i (g (get_or l' i 0) v)) k 0) same
        ∙ get_or-set_same l' i (g (get_or l' i 0) v) 0 (omega (arith, a.long))
        ∙ ap₂ g (a.rest i (omega arith)) ev
        ∙ ap (λ (k : ℕ). g (get_or l k 0) (f k)) (sym same));
    rest = λ j b. get_or-set_other l' i j (g (get_or l' i 0) v) 0 (λ (e : j ≡ i). omega arith) ∙ a.rest j (omega arith);
  }

-- ---- the marks of the rows together

-- `all` has the marks of the rows before j
abbrev pub Gathered : List ℕ → Rows → ℕ → List ℕ → Type 0
Gathered l r j all = (c : ℕ) → c < 256 → cell all c ≡ joint_marks l r j c

pub gathered_start : (l : List ℕ) (r : Rows) (all : List ℕ) → all ≡ zeros 32 → Gathered l r 0 all
unfolding joint_marks
gathered_start l r all e c b =
    ap (digit (c % 8)) (ap (λ (x : List ℕ). get_or x (c / 8) 0) e ∙ get_or-replicate 32 (c / 8) 0 0 (omega arith)) ∙ none (c % 8)
  where
    none : (i : ℕ) → digit i 0 ≡ 0
    none i = digit_past 0 0 i (omega arith) (omega arith)

-- row j put to them
pub gathered_turn : (l : List ℕ) (r : Rows) (j : ℕ) (all row all' : List ℕ) → Gathered l r j all → row ≡ row_of l r j
    → ((i : ℕ) → i < 32 → get_or all' i 0 ≡ bit_or (get_or all i 0) (get_or row i 0)) → Gathered l r (j + 1) all'
unfolding joint_marks
gathered_turn l r j all row all' so_far er both c b =
    ap (digit (c % 8)) (both (c / 8) (omega arith)) ∙ digit_or (c % 8) (get_or all (c / 8) 0) (get_or row (c / 8) 0)
    ∙ ap (λ (x : ℕ). max x (cell row c)) (so_far c b) ∙ ap (λ (x : List ℕ). max (joint_marks l r j c) (cell x c)) er
    ∙ ap (λ (k : ℕ). joint_marks l r k c) (sym (add-one j))

pub gathered_end : (l : List ℕ) (r : Rows) (j t : ℕ) (all : List ℕ) → Gathered l r j all → j ≡ t → Gathered l r t all
gathered_end l r j t all h e c b = h c b ∙ ap (λ (k : ℕ). joint_marks l r k c) e

-- a row that is there
pub place_inside : (at stride t n j : ℕ) → at + stride * t + 32 ≤ n + stride → j < t → at + stride * j + 32 ≤ n
place_inside at stride t n j h l =
    let less : stride * suc j ≤ stride * t = mul-le-mul_left stride (l) in
    omega (arith, less, mul-suc stride j)

-- ---- by words of 64 cells

digit_all : (i : ℕ) → i < 64 → digit i 18446744073709551615 ≡ 1
unfolding any_below
digit_all i l =
    eqb-true (digit i 18446744073709551615) 1 (not-false _ (any_below_false 64 (λ (j : ℕ). not (eqb (digit j 18446744073709551615) 1)) refl i l))

digit_and : (i a b : ℕ) → digit i (bit_and a b) ≡ min (digit i a) (digit i b)
digit_and i a b = ap (λ (x : ℕ). x % 2) (and_shr a b i) ∙ omega (arith, and_step (a / 2 ^ i) (b / 2 ^ i))

-- the other cells of a word, which Rattle's `!` subtracts from all
pub all_flipped : (w : ℕ) → w < 2 ^ 64 → 18446744073709551615 - w ≡ bit_xor w 18446744073709551615
all_flipped w h = omega (arith, xor_add_and w 18446744073709551615, and_mask w 64)

-- .. digit by digit
digit_other : (k w : ℕ) → k < 64 → digit k (bit_xor w 18446744073709551615) ≡ 1 - digit k w
digit_other k w h =
    digit_xor k w 18446744073709551615 ∙ ap (λ (x : ℕ). (digit k w + x) % 2) (digit_all k h) ∙ turned (digit k w) (mod2_lt (w / 2 ^ k))
  where
    turned : (a : ℕ) → a < 2 → (a + 1) % 2 ≡ 1 - a
    turned a l = omega arith

digit_without : (k w marks : ℕ) → k < 64 → digit k (without w marks) ≡ min (digit k w) (1 - digit k marks)
unfolding without
digit_without k w marks h = digit_and k w (bit_xor marks 18446744073709551615) ∙ ap (min (digit k w)) (digit_other k marks h)

joint_le : (l : List ℕ) (r : Rows) (t c : ℕ) → joint_marks l r t c ≤ 1
unfolding joint_marks
joint_le l r zero c = omega arith
joint_le l r (suc t) c = omega (arith, joint_le l r t c, cell_lt (row_of l r t) c)

module _ (l : List ℕ) (bytes : (i : ℕ) → get_or l i 0 < 256) (r : Rows) where
  pub words_start : (ws : List ℕ) → ws ≡ replicate 4 18446744073709551615 → UnmarkedWords l r 0 ws
  unfolding joint_marks
  words_start ws e i k hi hk =
      ap (digit k) (ap (λ (x : List ℕ). get_or x i 0) e ∙ get_or-replicate 4 i 18446744073709551615 0 hi) ∙ digit_all k hk

  -- a word of row j
  word_of_row : (j i k : ℕ) → r.bytes ≡ 32 → i < 4 → k < 64 → digit k (word_at l (r.at + r.stride * j + 8 * i)) ≡ cells_of l r j (64 * i + k)
  word_of_row j i k eb hi hk =
      let at = r.at + r.stride * j in
      ap (digit k) (sym (number_in_part 8 l at 32 (8 * i) (omega arith)))
      ∙ word_cell (take 32 (drop at l)) (part_small l bytes at 32) i k hk
      ∙ ap (λ (n : ℕ). cell (take n (drop at l)) (64 * i + k)) (sym eb)

  pub words_turn : (j at : ℕ) (ws ws' : List ℕ) → UnmarkedWords l r j ws → r.bytes ≡ 32 → at ≡ r.at + r.stride * j
      → ((i : ℕ) → i < 4 → get_or ws' i 0 ≡ without (get_or ws i 0) (word_at l (at + 8 * i))) → UnmarkedWords l r (j + 1) ws'
  unfolding joint_marks
  words_turn j at ws ws' so_far eb ea e i k hi hk =
      ap (digit k) (e i hi) ∙ digit_without k (get_or ws i 0) (word_at l (at + 8 * i)) hk
      ∙ ap₂ (λ (a b : ℕ). min a (1 - b)) (so_far i k hi hk) (ap (λ (x : ℕ). digit k (word_at l (x + 8 * i))) ea ∙ word_of_row j i k eb hi hk)
      ∙ less (joint_marks l r j (64 * i + k)) (cells_of l r j (64 * i + k))
      ∙ ap (λ (x : ℕ). 1 - joint_marks l r x (64 * i + k)) (sym (add-one j))
    where
      less : (a b : ℕ) → min (1 - a) (1 - b) ≡ 1 - max a b
      less a b = omega arith

pub words_end : (l : List ℕ) (r : Rows) (j t : ℕ) (ws : List ℕ) → UnmarkedWords l r j ws → j ≡ t → UnmarkedWords l r t ws
words_end l r j t ws h e i k hi hk = h i k hi hk ∙ ap (λ (x : ℕ). 1 - joint_marks l r x (64 * i + k)) e

-- the other cells are the marked ones
pub words_over : (l : List ℕ) (r : Rows) (t : ℕ) (ws ws' : List ℕ) → UnmarkedWords l r t ws
    → ((i : ℕ) → i < 4 → get_or ws' i 0 ≡ bit_xor (get_or ws i 0) 18446744073709551615) → JointWords l r t ws'
words_over l r t ws ws' h e i k hi hk =
    ap (digit k) (e i hi) ∙ digit_other k (get_or ws i 0) hk ∙ ap (λ (x : ℕ). 1 - x) (h i k hi hk)
    ∙ twice (joint_marks l r t (64 * i + k)) (joint_le l r t (64 * i + k))
  where
    twice : (a : ℕ) → a ≤ 1 → 1 - (1 - a) ≡ a
    twice a l = omega arith

front_parts : (vs l : List ℕ) → front vs l ≡ vs ++ drop (length vs) l
unfolding front
front_parts vs l = refl

-- the bytes of words are below 256, and so are zeros
append_small : (a b : List ℕ) → ((j : ℕ) → get_or a j 0 < 256) → ((j : ℕ) → get_or b j 0 < 256) → (j : ℕ) → get_or (a ++ b) j 0 < 256
append_small [] b ha hb j = hb j
append_small (x ∷ a) b ha hb zero = ha zero
append_small (x ∷ a) b ha hb (suc j) = append_small a b (λ i. ha (suc i)) hb j

word_bytes_small : (ws : List ℕ) (j : ℕ) → get_or (word_bytes ws) j 0 < 256
unfolding word_bytes
word_bytes_small [] j = omega arith
word_bytes_small (w ∷ ws) j = append_small (bytes_of 8 w) (word_bytes ws) (bytes_of_lt 8 w) (word_bytes_small ws) j

zeros_small : (n j : ℕ) → get_or (zeros n) j 0 < 256
zeros_small n j =
    dite (dec_lt j n) (λ (h : j < n). omega (arith, get_or-replicate {A = ℕ} n j 0 0 h))
    (λ (h : j < n → ⊥). omega (arith, get_or-eq_default (zeros n) 0 {n = j} (omega (arith, length_zeros n))))

-- four words as a row of bytes
pub words_row : (l : List ℕ) (r : Rows) (t : ℕ) (ws row : List ℕ) → length ws ≡ 4 → ((j : ℕ) → get_or ws j 0 < 256 ^ 8) → JointWords l r t ws → row ≡ sets (zeros 32) 0 (word_bytes ws) → (c : ℕ) → c < 256 → cell row c ≡ joint_marks l r t c
words_row l r t ws row long small h e c b =
    let place : 64 * (c / 64) + c % 64 ≡ c = omega arith in
    ap (cell row) (sym place) ∙ sym (word_cell row bytes (c / 64) (c % 64) (omega arith))
    ∙ ap (digit (c % 64)) (here (c / 64) (omega arith)) ∙ h (c / 64) (c % 64) (omega arith) (omega arith) ∙ ap (joint_marks l r t) place
  where
    whole : row ≡ word_bytes ws ++ drop (length (word_bytes ws)) (zeros 32)
    whole = e ∙ front_sets (word_bytes ws) (zeros 32) (omega (arith, length_word_bytes ws, length_zeros 32)) ∙ front_parts (word_bytes ws) (zeros 32)

    bytes : (j : ℕ) → get_or row j 0 < 256
    bytes j =
        subst (λ (x : List ℕ). get_or x j 0 < 256) (sym whole)
        (append_small (word_bytes ws) (drop (length (word_bytes ws)) (zeros 32)) (word_bytes_small ws) (λ i. rw get_or-drop (zeros_small 32 (length (word_bytes ws) + i))) j)

    here : (i : ℕ) → i < 4 → word_at row (8 * i) ≡ get_or ws i 0
    here i hi =
        let place : 8 * i ≡ 0 + 8 * i = omega arith in
        ap (word_at row) place ∙ sym (word_at_place row 0 4 i hi)
        ∙ ap₂ (λ (n : ℕ) (x : List ℕ). get_or (words_at x 0 n) i 0) (sym long) whole
        ∙ ap (λ (x : List ℕ). get_or x i 0) (words_back ws [] (drop (length (word_bytes ws)) (zeros 32)) 0 refl small)

-- ---- what the joint marks say of each row

pub marks_joint : (l : List ℕ) (r : Rows) (t j c : ℕ) → j < t → cells_of l r j c ≤ joint_marks l r t c
unfolding joint_marks
marks_joint l r zero j c h = let no : ⊥ = omega arith in absurd no
marks_joint l r (suc t) j c h =
    dite (dec_lt j t) (λ (b : j < t). omega (arith, marks_joint l r t j c b))
    (λ (b : j < t → ⊥). let same : j ≡ t = omega arith in omega (arith, ap (λ (k : ℕ). cells_of l r k c) same))
