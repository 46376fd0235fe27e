-- The marked cells of rows counted by words of 64. Assumes nothing.
use mathlib.Core.Path.{◌≡◌, refl, sym, ap, ap₂, ◌∙◌}
use mathlib.Core.Bool.{false, ◌||◌}
use mathlib.Core.List.{List}
use Prim.Native.Nat.{ℕ, zero, suc, ◌+◌, ◌*◌, ◌/◌, ◌%◌, ◌^◌, ◌≤◌, ◌<◌}
use native.Mathlib.Nat.{add-zero, div-one, pow-suc}
use native.Mathlib.Numerals.{one-add}
use native.Mathlib.Omega.{arith}
use lib.Count.{ones, ones_in, ones_step, ones-le}
use lib.Dec.{ltb}
use lib.ListN.{get_or, take, drop}
use borrow.Author.Tests.{ltb-false}
use Rattle.word.proofs.BoolLaws.{or_false_left, or_false_right}
use lib.Pow.{shr-shr}
use Rattle.word.specs.Word.{digit}
use Rattle.numbers.specs.Bytes.{word_at}
use Rattle.numbers.proofs.ByteLaws.{number_at_lt, number_in_part}
use Rattle.numbers.proofs.FileLaws.{part_small}
use Rattle.rows.specs.Row.{cell}
use Rattle.rows.specs.Marks.{total}
use Rattle.rows.proofs.CellLaws.{cell_lt}
use Rattle.rows.proofs.DigitLaws.{word_cell}
use Rattle.rows.proofs.MarkLaws.{total_none, total_ext, total_le, total_add, total_front}

-- ---- the digits of a number

pub total_digits : (k b : ℕ) → b < 2 ^ k → total k (λ i. digit i b) ≡ ones b
total_digits zero b h = omega (arith, total_none (λ (i : ℕ). digit i b), ones-le 0 b h)
total_digits (suc k) b h =
    total_front k (λ i. digit i b)
    ∙ ap₂ ◌+◌ (ap (λ (x : ℕ). x % 2) (div-one b))
    (total_ext k (λ i. digit (suc i) b) (λ i. digit i (b / 2)) (λ i l. ap (λ (x : ℕ). x % 2) (sym (shr-shr b 1 i ∙ ap (λ (x : ℕ). b / 2 ^ x) (one-add i))))
    ∙ total_digits k (b / 2) (omega (arith, pow-suc 2 k)))
    ∙ sym (ones_step b)

pub ones_none : ones 0 ≡ 0
unfolding ones ones_in
ones_none = refl

pub ones_word_le : (w : ℕ) (l : List ℕ) (i : ℕ) → ((j : ℕ) → get_or l j 0 < 256) → w ≡ word_at l (8 * i) → ones w ≤ 64
ones_word_le w l i bytes e = ones-le 64 w (rw e (number_at_lt 8 l (8 * i) bytes))

-- ---- four words

pub words_none : (a b c d : ℕ) → (((ltb 0 a || ltb 0 b) || ltb 0 c) || ltb 0 d) ≡ false → 0 ≡ ones a + ones b + ones c + ones d
words_none a b c d h =
    let three = or_false_left ((ltb 0 a || ltb 0 b) || ltb 0 c) (ltb 0 d) h in
    let two = or_false_left (ltb 0 a || ltb 0 b) (ltb 0 c) three in
    let za : a ≡ 0 = omega (arith, ltb-false 0 a (or_false_left (ltb 0 a) (ltb 0 b) two)) in
    let zb : b ≡ 0 = omega (arith, ltb-false 0 b (or_false_right (ltb 0 a) (ltb 0 b) two)) in
    let zc : c ≡ 0 = omega (arith, ltb-false 0 c (or_false_right (ltb 0 a || ltb 0 b) (ltb 0 c) three)) in
    let zd : d ≡ 0 = omega (arith, ltb-false 0 d (or_false_right ((ltb 0 a || ltb 0 b) || ltb 0 c) (ltb 0 d) h)) in
    omega (arith, ap ones za, ap ones zb, ap ones zc, ap ones zd, ones_none)

-- ---- a row

module _ (row : List ℕ) where
  pub count_start : 0 ≡ total (64 * 0) (cell row)
  count_start = sym (total_none (cell row))

  count_turn : ((j : ℕ) → get_or row j 0 < 256) → (i : ℕ) → total (64 * (i + 1)) (cell row) ≡ total (64 * i) (cell row) + ones (word_at row (8 * i))
  count_turn bytes i =
      let next : 64 * (i + 1) ≡ 64 * i + 64 = omega arith in
      ap (λ (k : ℕ). total k (cell row)) next ∙ total_add (64 * i) 64 (cell row)
      ∙ ap (λ (x : ℕ). total (64 * i) (cell row) + x)
      (total_ext 64 (λ k. cell row (64 * i + k)) (λ k. digit k (word_at row (8 * i))) (λ k l. sym (word_cell row bytes i k l))
      ∙ total_digits 64 (word_at row (8 * i)) (number_at_lt 8 row (8 * i) bytes))

  pub count_turns : ((j : ℕ) → get_or row j 0 < 256) → (i found w : ℕ) → found ≡ total (64 * i) (cell row) → w ≡ word_at row (8 * i)
      → found + ones w ≡ total (64 * (i + 1)) (cell row)
  count_turns bytes i found w ef ew = ap₂ (λ (x y : ℕ). x + ones y) ef ew ∙ sym (count_turn bytes i)

  -- all four words
  module _ (bytes : (j : ℕ) → get_or row j 0 < 256) (a b c d : ℕ) (ea : a ≡ word_at row 0) (eb : b ≡ word_at row 8) (ec : c ≡ word_at row 16) (ed : d ≡ word_at row 24) where
    pub count_words : ones a + ones b + ones c + ones d ≡ total 256 (cell row)
    count_words = omega (arith, count_turns bytes 3 _ d (count_turns bytes 2 _ c (count_turns bytes 1 _ b (count_turns bytes 0 0 a count_start ea) eb) ec) ed)

  pub count_le : (i : ℕ) → total (64 * i) (cell row) ≤ 64 * i
  count_le i = omega (arith, total_le (64 * i) 1 (cell row) (λ c. omega (arith, cell_lt row c)))

pub row_total_le : (r : ℕ) (row : List ℕ) → r ≡ total 256 (cell row) → r ≤ 256
row_total_le r row e = omega (arith, total_le 256 1 (cell row) (λ c. omega (arith, cell_lt row c)))

-- ---- a row that stands in a list

module _ (l : List ℕ) (bytes : (j : ℕ) → get_or l j 0 < 256) (at : ℕ) where
  pub count_part : (a b c d : ℕ) → a ≡ word_at l at → b ≡ word_at l (at + 8) → c ≡ word_at l (at + 16) → d ≡ word_at l (at + 24)
      → ones a + ones b + ones c + ones d ≡ total 256 (cell (take 32 (drop at l)))
  count_part a b c d ea eb ec ed =
      count_words (take 32 (drop at l)) (part_small l bytes at 32) a b c d (ea ∙ ap (word_at l) (sym (add-zero at)) ∙ sym (number_in_part 8 l at 32 0 (omega arith)))
      (eb ∙ sym (number_in_part 8 l at 32 8 (omega arith))) (ec ∙ sym (number_in_part 8 l at 32 16 (omega arith)))
      (ed ∙ sym (number_in_part 8 l at 32 24 (omega arith)))
