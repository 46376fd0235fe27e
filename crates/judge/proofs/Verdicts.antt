-- The verdict by the XOR of the cancelled and the expected bits: none of its bits is set where all words agree, else its
-- lowest bit is the index of the first word that disagrees. Assumes nothing.
use mathlib.Core.Path.{◌≡◌, refl, sym, ap, ap₂, ◌∙◌, subst}
use mathlib.Core.Bool.{Bool, true, false, cond}
use mathlib.Core.List.{List, [], ◌∷◌}
use Prim.Native.Nat.{ℕ, zero, suc, ◌+◌, ◌*◌, ◌/◌, ◌%◌, ◌^◌, ◌<◌, ◌≤◌}
use native.Mathlib.Nat.{add-zero, zero-add, add-suc, suc-add, div-one, not-suc-le-zero, le_of_suc-le-suc}
use native.Mathlib.Omega.{arith}
use borrow.Author.Tests.{eqb-true, eqb-false}
use lib.Bits.{bit_xor, xor_shr}
use lib.Count.{count_trailing_zeros, under}
use lib.Dec.{eqb}
use lib.ListN.{length}
use lib.Pow.{shr-shr}
use Rattle.word.specs.Word.{digit, parity}
use Rattle.word.specs.Parities.{parities}
use Rattle.word.proofs.Laws.{digit_xor, parity_lt}
use Rattle.judge.specs.Verdict.{Outcome, passes, fails_at, verdict_from, verdict}

xor_half : (a b : ℕ) → bit_xor a b / 2 ≡ bit_xor (a / 2) (b / 2)
xor_half a b = xor_shr a b 1

xor_lowest : (a b : ℕ) → bit_xor a b % 2 ≡ (a % 2 + b % 2) % 2
xor_lowest a b =
    ap (λ (x : ℕ). x % 2) (sym (div-one (bit_xor a b))) ∙ digit_xor 0 a b
    ∙ ap₂ (λ (x y : ℕ). (x % 2 + y % 2) % 2) (div-one a) (div-one b)

shifted : (e i : ℕ) → e / 2 ^ i / 2 ≡ e / 2 ^ suc i
shifted e i = shr-shr e i 1 ∙ ap (λ (x : ℕ). e / 2 ^ x) (omega arith)

-- the bits in which the words' parities differ from the expected bits, of which the first is bit i
abbrev differing : ℕ → List ℕ → ℕ → ℕ → ℕ
differing i ws e y = bit_xor (parities ws y) (e / 2 ^ i)

module _ (i w : ℕ) (ws : List ℕ) (e y : ℕ) where
  low_bit : (p x : ℕ) → p < 2 → (p + 2 * x) % 2 ≡ p
  low_bit p x h = omega arith

  rest_bits : (p x : ℕ) → p < 2 → (p + 2 * x) / 2 ≡ x
  rest_bits p x h = omega arith

  differing_low : differing i (w ∷ ws) e y % 2 ≡ (parity w y + digit i e) % 2
  unfolding parities
  differing_low =
      xor_lowest (parity w y + 2 * parities ws y) (e / 2 ^ i)
      ∙ ap (λ (x : ℕ). (x + e / 2 ^ i % 2) % 2) (low_bit (parity w y) (parities ws y) (parity_lt w y))

  differing_rest : differing i (w ∷ ws) e y / 2 ≡ differing (suc i) ws e y
  unfolding parities
  differing_rest =
      xor_half (parity w y + 2 * parities ws y) (e / 2 ^ i)
      ∙ ap₂ bit_xor (rest_bits (parity w y) (parities ws y) (parity_lt w y)) (shifted e i)

  agree_low : parity w y ≡ digit i e → differing i (w ∷ ws) e y % 2 ≡ 0
  agree_low h = differing_low ∙ ap (λ (x : ℕ). (x + digit i e) % 2) h ∙ twice (digit i e)
    where
      twice : (d : ℕ) → (d + d) % 2 ≡ 0
      twice d = omega arith

  differ_low : (parity w y ≡ digit i e → ⊥) → differing i (w ∷ ws) e y % 2 ≡ 1
  differ_low h = differing_low ∙ odd (parity w y) (e / 2 ^ i) (parity_lt w y) h
    where
      odd : (p d : ℕ) → p < 2 → (p ≡ d % 2 → ⊥) → (p + d % 2) % 2 ≡ 1
      odd p d l n = omega arith

trailing_even : (k d : ℕ) → d % 2 ≡ 0 → count_trailing_zeros (suc k) d ≡ suc (count_trailing_zeros k (d / 2))
unfolding count_trailing_zeros
trailing_even k d h = ap (λ (x : ℕ). under x (count_trailing_zeros k (d / 2))) h

trailing_odd : (k d : ℕ) → d % 2 ≡ 1 → count_trailing_zeros (suc k) d ≡ 0
unfolding count_trailing_zeros
trailing_odd k d h = ap (λ (x : ℕ). under x (count_trailing_zeros k (d / 2))) h

pub next_agrees : (i w : ℕ) (ws : List ℕ) (e y : ℕ) → eqb (parity w y) (digit i e) ≡ true → verdict_from i (w ∷ ws) e y ≡ verdict_from (suc i) ws e y
unfolding verdict_from
next_agrees i w ws e y h = ap (λ (b : Bool). cond b (verdict_from (suc i) ws e y) (fails_at i)) h

pub next_differs : (i w : ℕ) (ws : List ℕ) (e y : ℕ) → eqb (parity w y) (digit i e) ≡ false → verdict_from i (w ∷ ws) e y ≡ fails_at i
unfolding verdict_from
next_differs i w ws e y h = ap (λ (b : Bool). cond b (verdict_from (suc i) ws e y) (fails_at i)) h

fewer_bits : (e i n : ℕ) → e / 2 ^ i < 2 ^ suc n → e / 2 ^ suc i < 2 ^ n
fewer_bits e i n h = omega (arith, shifted e i)

-- the verdict of some words, by the bits in which they differ
pub data Found (i k : ℕ) (d : ℕ) (o : Outcome) : Type 0 where
  none : d ≡ 0 → o ≡ passes → Found i k d o
  first : (d ≡ 0 → ⊥) → o ≡ fails_at (i + count_trailing_zeros k d) → Found i k d o

found_agree : (i k d : ℕ) (o o' : Outcome) → d % 2 ≡ 0 → o' ≡ o → Found (suc i) k (d / 2) o → Found i (suc k) d o'
found_agree i k d o o' h e (none z p) = none (omega arith) (e ∙ p)
found_agree i k d o o' h e (first n f) =
    first (λ z. n (omega arith))
    (e ∙ f ∙ ap fails_at (suc-add i (count_trailing_zeros k (d / 2)) ∙ sym (add-suc i (count_trailing_zeros k (d / 2))) ∙ ap (λ (x : ℕ). i + x) (sym (trailing_even k d h))))

found_differ : (i k d : ℕ) (o : Outcome) → d % 2 ≡ 1 → o ≡ fails_at i → Found i (suc k) d o
found_differ i k d o h e =
    first (λ z. omega arith) (e ∙ ap fails_at (sym (add-zero i) ∙ ap (λ (x : ℕ). i + x) (sym (trailing_odd k d h))))

found_next : (i k w : ℕ) (ws : List ℕ) (e y : ℕ) (b : Bool) → eqb (parity w y) (digit i e) ≡ b
    → Found (suc i) k (differing (suc i) ws e y) (verdict_from (suc i) ws e y)
    → Found i (suc k) (differing i (w ∷ ws) e y) (verdict_from i (w ∷ ws) e y)
found_next i k w ws e y true h f =
    found_agree i k (differing i (w ∷ ws) e y) (verdict_from (suc i) ws e y) (verdict_from i (w ∷ ws) e y)
    (agree_low i w ws e y (eqb-true (parity w y) (digit i e) h)) (next_agrees i w ws e y h)
    (rw (differing_rest i w ws e y) f)
found_next i k w ws e y false h f =
    found_differ i k (differing i (w ∷ ws) e y) (verdict_from i (w ∷ ws) e y)
    (differ_low i w ws e y (eqb-false (parity w y) (digit i e) h)) (next_differs i w ws e y h)

no_words_lem : (i k e y : ℕ) → e / 2 ^ i < 1 → Found i k (differing i [] e y) (verdict_from i [] e y)
unfolding parities verdict_from
no_words_lem i k e y h = none (omega arith) refl

found_from : (ws : List ℕ) (i k e y : ℕ) → length ws ≤ k → e / 2 ^ i < 2 ^ length ws → Found i k (differing i ws e y) (verdict_from i ws e y)
found_from [] i k e y h l = no_words_lem i k e y l
found_from (w ∷ ws) i zero e y h l = absurd (not-suc-le-zero h)
found_from (w ∷ ws) i (suc k) e y h l =
    found_next i k w ws e y (eqb (parity w y) (digit i e)) refl
    (found_from ws (suc i) k e y (le_of_suc-le-suc h) (fewer_bits e i (length ws) l))

pub found : (ws : List ℕ) (k e y : ℕ) → length ws ≤ k → e < 2 ^ length ws → Found 0 k (bit_xor (parities ws y) e) (verdict ws e y)
found ws k e y h l =
    subst (λ (x : ℕ). Found 0 k (bit_xor (parities ws y) x) (verdict ws e y)) (div-one e)
    (found_from ws 0 k e y h (rw div-one l))

pub agrees_by_xor : (ws : List ℕ) (k e y : ℕ) → length ws ≤ k → e < 2 ^ length ws → bit_xor (parities ws y) e ≡ 0 → verdict ws e y ≡ passes
agrees_by_xor ws k e y h l z = go (found ws k e y h l)
  where
    go : Found 0 k (bit_xor (parities ws y) e) (verdict ws e y) → verdict ws e y ≡ passes
    go (none d p) = p
    go (first n f) = absurd (n z)

pub fails_by_xor : (ws : List ℕ) (k e y : ℕ) → length ws ≤ k → e < 2 ^ length ws → (bit_xor (parities ws y) e ≡ 0 → ⊥)
    → verdict ws e y ≡ fails_at (count_trailing_zeros k (bit_xor (parities ws y) e))
fails_by_xor ws k e y h l n = go (found ws k e y h l)
  where
    go : Found 0 k (bit_xor (parities ws y) e) (verdict ws e y) → verdict ws e y ≡ fails_at (count_trailing_zeros k (bit_xor (parities ws y) e))
    go (none d p) = absurd (n d)
    go (first m f) = f ∙ ap fails_at (zero-add (count_trailing_zeros k (bit_xor (parities ws y) e)))
