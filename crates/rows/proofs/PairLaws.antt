-- Pairs of rows compared by words: the AND of two numbers that are read from bytes is 0 exactly where no byte of the one shares a bit with
-- the byte of the other at the same place. Assumes nothing.
use mathlib.Core.Path.{◌≡◌, refl, sym, ap, ap₂, ◌∙◌}
use mathlib.Core.Bool.{Bool, true, false, not, ◌||◌}
use mathlib.Core.List.{List}
use Prim.Native.Nat.{ℕ, zero, suc, ◌+◌, ◌*◌, ◌^◌, ◌≤◌, ◌<◌, min}
use native.Mathlib.Numerals.{add-one}
use native.Mathlib.Omega.{arith}
use borrow.Author.Tests.{ne_eqb}
use lib.Bits.{bit_and, bit_or, and_block}
use lib.Dec.{eqb}
use lib.ListN.{length, get_or, take, drop, length-take, length-drop}
use lib.Seq.{get_or-take, get_or-drop}
use Rattle.word.specs.Some.{any_below}
use Rattle.word.proofs.SomeLaws.{any_below_ext}
use Rattle.word.proofs.RangeLaws.{any_below_add}
use Rattle.numbers.specs.Bytes.{number_at, word_at}
use Rattle.numbers.proofs.ByteLaws.{number_at_zero, number_at_suc}
use Rattle.rows.specs.Lists.{shares_bit}
use Rattle.rows.proofs.RowLaws.{or_not_zero}

-- the bytes at places a and b have a bit in common
abbrev MeetAt : List ℕ → ℕ → ℕ → Bool
MeetAt l a b = not (eqb (bit_and (get_or l a 0) (get_or l b 0)) 0)

-- one of the k bytes from place a on and the byte as far behind place b have
abbrev Meet : List ℕ → ℕ → ℕ → ℕ → Bool
Meet l a b k = any_below k (λ i. MeetAt l (a + i) (b + i))

parts_not_zero : (x y : ℕ) → not (eqb (y * 2 ^ 8 + x) 0) ≡ (not (eqb x 0) || not (eqb y 0))
parts_not_zero zero zero = refl
parts_not_zero zero (suc y) = ap not (ne_eqb (suc y * 2 ^ 8 + 0) 0 (λ e. omega arith)) ∙ sym (ap not (ne_eqb (suc y) 0 (λ e. omega arith)))
parts_not_zero (suc x) y =
    ap not (ne_eqb (y * 2 ^ 8 + suc x) 0 (λ e. omega arith))
    ∙ sym (ap (λ (b : Bool). not b || not (eqb y 0)) (ne_eqb (suc x) 0 (λ e. omega arith)))

-- the OR of two ORs, taken crosswise
or_crosswise : (a b c d : ℕ) → not (eqb (bit_or (bit_or a b) (bit_or c d)) 0) ≡ not (eqb (bit_or (bit_or a c) (bit_or b d)) 0)
or_crosswise a b c d =
    apart a b c d ∙ moved (not (eqb a 0)) (not (eqb b 0)) (not (eqb c 0)) (not (eqb d 0)) ∙ sym (apart a c b d)
  where
    apart : (w x y z : ℕ) → not (eqb (bit_or (bit_or w x) (bit_or y z)) 0) ≡ ((not (eqb w 0) || not (eqb x 0)) || (not (eqb y 0) || not (eqb z 0)))
    apart w x y z = or_not_zero (bit_or w x) (bit_or y z) ∙ ap₂ ◌||◌ (or_not_zero w x) (or_not_zero y z)

    moved : (w x y z : Bool) → ((w || x) || (y || z)) ≡ ((w || y) || (x || z))
    moved true x y z = refl
    moved false true true z = refl
    moved false true false z = refl
    moved false false y z = refl

module _ (l : List ℕ) (bytes : (i : ℕ) → get_or l i 0 < 256) where
  numbers_meet : (k a b : ℕ) → not (eqb (bit_and (number_at k l a) (number_at k l b)) 0) ≡ Meet l a b k
  unfolding any_below
  numbers_meet zero a b = ap₂ (λ (x y : ℕ). not (eqb (bit_and x y) 0)) (number_at_zero l a) (number_at_zero l b)
  numbers_meet (suc k) a b =
      let first : a + 0 ≡ a = omega arith in
      let second : b + 0 ≡ b = omega arith in
      let count : 1 + k ≡ suc k = omega arith in
      ap₂ (λ (x y : ℕ). not (eqb (bit_and x y) 0)) (front a) (front b)
      ∙ ap (λ (x : ℕ). not (eqb x 0)) (and_block 8 (number_at k l (suc a)) (number_at k l (suc b)) (get_or l a 0) (get_or l b 0) (bytes a) (bytes b))
      ∙ parts_not_zero (bit_and (get_or l a 0) (get_or l b 0)) (bit_and (number_at k l (suc a)) (number_at k l (suc b)))
      ∙ ap₂ ◌||◌ (ap₂ (λ (x y : ℕ). MeetAt l x y) (sym first) (sym second))
      (numbers_meet k (suc a) (suc b)
      ∙ any_below_ext k (λ i. MeetAt l (suc a + i) (suc b + i)) (λ i. MeetAt l (a + (1 + i)) (b + (1 + i)))
      (λ i h. ap₂ (λ (x y : ℕ). MeetAt l x y) (on a i) (on b i)))
      ∙ sym (any_below_add 1 k (λ i. MeetAt l (a + i) (b + i)))
      ∙ ap (λ (n : ℕ). any_below n (λ i. MeetAt l (a + i) (b + i))) count
    where
      front : (i : ℕ) → number_at (suc k) l i ≡ number_at k l (suc i) * 2 ^ 8 + get_or l i 0
      front i = number_at_suc k l i ∙ omega arith

      on : (x i : ℕ) → suc x + i ≡ x + (1 + i)
      on x i = omega arith

  -- k bytes more
  meet_add : (a b j k : ℕ) → (Meet l a b j || Meet l (a + j) (b + j) k) ≡ Meet l a b (j + k)
  meet_add a b j k =
      ap (λ (r : Bool). Meet l a b j || r)
      (any_below_ext k (λ i. MeetAt l (a + j + i) (b + j + i)) (λ i. MeetAt l (a + (j + i)) (b + (j + i)))
      (λ i h. ap₂ (λ (x y : ℕ). MeetAt l x y) (on a i) (on b i)))
      ∙ sym (any_below_add j k (λ i. MeetAt l (a + i) (b + i)))
    where
      on : (x i : ℕ) → x + j + i ≡ x + (j + i)
      on x i = omega arith

  sixteen_meet : (a b : ℕ) → not (eqb (bit_or (bit_and (word_at l a) (word_at l b)) (bit_and (word_at l (a + 8)) (word_at l (b + 8)))) 0) ≡ Meet l a b 16
  sixteen_meet a b =
      or_not_zero (bit_and (word_at l a) (word_at l b)) (bit_and (word_at l (a + 8)) (word_at l (b + 8)))
      ∙ ap₂ ◌||◌ (numbers_meet 8 a b) (numbers_meet 8 (a + 8) (b + 8)) ∙ meet_add a b 8 8

  -- two rows of 32 bytes
  rows_meet : (a b : ℕ) → a + 32 ≤ length l → b + 32 ≤ length l → Meet l a b 32 ≡ shares_bit (take 32 (drop a l)) (take 32 (drop b l))
  unfolding shares_bit
  rows_meet a b ha hb =
      let count : 32 ≡ min (length (take 32 (drop a l))) (length (take 32 (drop b l))) = simp (length-take, length-drop) (omega arith) in
      any_below_ext 32 (λ i. MeetAt l (a + i) (b + i)) (λ i. not (eqb (bit_and (get_or (take 32 (drop a l)) i 0) (get_or (take 32 (drop b l)) i 0)) 0))
      (λ i h. ap₂ (λ (x y : ℕ). not (eqb (bit_and x y) 0)) (sym (place a i h)) (sym (place b i h)))
      ∙ ap (λ (n : ℕ). any_below n (λ i. not (eqb (bit_and (get_or (take 32 (drop a l)) i 0) (get_or (take 32 (drop b l)) i 0)) 0))) count
    where
      place : (x i : ℕ) → i < 32 → get_or (take 32 (drop x l)) i 0 ≡ get_or l (x + i) 0
      place x i h = get_or-take 32 (drop x l) i 0 h ∙ get_or-drop x l i 0

  -- .. from their words, the first and the third in x, the second and the fourth in y
  halves_meet : (at x y : ℕ) → at + 64 ≤ length l
      → x ≡ bit_or (bit_and (word_at l at) (word_at l (at + 32))) (bit_and (word_at l (at + 16)) (word_at l (at + 48)))
      → y ≡ bit_or (bit_and (word_at l (at + 8)) (word_at l (at + 8 + 32))) (bit_and (word_at l (at + 8 + 16)) (word_at l (at + 8 + 48)))
      → not (eqb (bit_or x y) 0) ≡ shares_bit (take 32 (drop at l)) (take 32 (drop (at + 32) l))
  halves_meet at x y h ex ey =
      let third : at + 48 ≡ at + 32 + 16 = omega arith in
      let second : at + 8 + 32 ≡ at + 32 + 8 = omega arith in
      let fourth : at + 8 + 16 ≡ at + 16 + 8 = omega arith in
      let fourth_mark : at + 8 + 48 ≡ at + 32 + 16 + 8 = omega arith in
      ap₂ (λ (u v : ℕ). not (eqb (bit_or u v) 0))
      (ex ∙ ap (λ (i : ℕ). bit_or (bit_and (word_at l at) (word_at l (at + 32))) (bit_and (word_at l (at + 16)) (word_at l i))) third)
      (ey
      ∙ ap₂ bit_or (ap (λ (i : ℕ). bit_and (word_at l (at + 8)) (word_at l i)) second)
      (ap₂ (λ (i j : ℕ). bit_and (word_at l i) (word_at l j)) fourth fourth_mark))
      ∙ or_crosswise (bit_and (word_at l at) (word_at l (at + 32))) (bit_and (word_at l (at + 16)) (word_at l (at + 32 + 16)))
      (bit_and (word_at l (at + 8)) (word_at l (at + 32 + 8))) (bit_and (word_at l (at + 16 + 8)) (word_at l (at + 32 + 16 + 8)))
      ∙ or_not_zero (bit_or (bit_and (word_at l at) (word_at l (at + 32))) (bit_and (word_at l (at + 8)) (word_at l (at + 32 + 8))))
      (bit_or (bit_and (word_at l (at + 16)) (word_at l (at + 32 + 16))) (bit_and (word_at l (at + 16 + 8)) (word_at l (at + 32 + 16 + 8))))
      ∙ ap₂ ◌||◌ (sixteen_meet at (at + 32)) (sixteen_meet (at + 16) (at + 32 + 16))
      ∙ meet_add at (at + 32) 16 16
      ∙ rows_meet at (at + 32) (omega arith) (omega arith)

-- ---- pair after pair

-- pair t of the pairs of rows of 32 bytes from place `from` on has a bit in common
abbrev pub PairMeets : List ℕ → ℕ → ℕ → Bool
PairMeets l f t = shares_bit (take 32 (drop (f + 64 * t) l)) (take 32 (drop (f + 64 * t + 32) l))

pub pairs_start : (l : List ℕ) (f : ℕ) → not (eqb (bit_or 0 0) 0) ≡ any_below 0 (PairMeets l f)
unfolding any_below
pairs_start l f = refl

pub pairs_turn : (l : List ℕ) → ((i : ℕ) → get_or l i 0 < 256) → (f t at even odd x y : ℕ) → at ≡ f + 64 * t → at + 64 ≤ length l
    → not (eqb (bit_or even odd) 0) ≡ any_below t (PairMeets l f)
    → x ≡ bit_or (bit_and (word_at l at) (word_at l (at + 32))) (bit_and (word_at l (at + 16)) (word_at l (at + 48)))
    → y ≡ bit_or (bit_and (word_at l (at + 8)) (word_at l (at + 8 + 32))) (bit_and (word_at l (at + 8 + 16)) (word_at l (at + 8 + 48)))
    → not (eqb (bit_or (bit_or even x) (bit_or odd y)) 0) ≡ any_below (t + 1) (PairMeets l f)
unfolding any_below
pairs_turn l bytes f t at even odd x y e h k ex ey =
    or_crosswise even x odd y ∙ or_not_zero (bit_or even odd) (bit_or x y)
    ∙ ap₂ ◌||◌ k (halves_meet l bytes at x y h ex ey ∙ ap (λ (a : ℕ). shares_bit (take 32 (drop a l)) (take 32 (drop (a + 32) l))) e)
    ∙ ap (λ (n : ℕ). any_below n (PairMeets l f)) (sym (add-one t))

pub pairs_end : (l : List ℕ) (f t n x : ℕ) → not (eqb x 0) ≡ any_below t (PairMeets l f) → t ≡ n → not (eqb x 0) ≡ any_below n (PairMeets l f)
pairs_end l f t n x h e = h ∙ ap (λ (k : ℕ). any_below k (PairMeets l f)) e
