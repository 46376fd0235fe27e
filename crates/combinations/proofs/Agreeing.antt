-- Two signatures have the same parities with the words exactly when their XOR is even with each, and one has no odd parity exactly
-- when it is even with each. Assumes nothing.
use mathlib.Core.Path.{◌≡◌, refl, sym, ap, ap₂, ◌∙◌}
use mathlib.Core.Bool.{true}
use mathlib.Core.List.{List, [], ◌∷◌}
use Prim.Native.Nat.{ℕ, ◌+◌, ◌*◌, ◌%◌, ◌<◌}
use native.Mathlib.Omega.{arith}
use borrow.Author.Tests.{eqb-true, eq-eqb}
use lib.Bits.{bit_xor, xor_zero_r}
use lib.Dec.{eqb}
use Rattle.word.specs.Word.{parity}
use Rattle.word.specs.Parities.{parities}
use Rattle.word.proofs.Laws.{parity_xor, parity_comm, parity_lt, parities_zero}
use Rattle.word.proofs.BoolLaws.{iff_eq}
use Rattle.combinations.specs.Combination.{x_free}
use Rattle.combinations.proofs.XFree.{x_free_cons, x_free_head, x_free_tail}

-- the parities of two signatures with one word, and of their XOR
same_even : (w a b : ℕ) → parity w a ≡ parity w b → parity (bit_xor a b) w ≡ 0
same_even w a b e =
    parity_xor a b w ∙ ap₂ (λ (x y : ℕ). (x + y) % 2) (parity_comm a w) (parity_comm b w ∙ sym e) ∙ twice (parity w a)
  where
    twice : (x : ℕ) → (x + x) % 2 ≡ 0
    twice x = omega arith

even_same : (w a b : ℕ) → parity (bit_xor a b) w ≡ 0 → parity w a ≡ parity w b
even_same w a b e =
    let sum : (parity a w + parity b w) % 2 ≡ 0 = sym (parity_xor a b w) ∙ e in
    parity_comm w a ∙ equal (parity a w) (parity b w) (parity_lt a w) (parity_lt b w) sum ∙ parity_comm b w
  where
    equal : (x y : ℕ) → x < 2 → y < 2 → (x + y) % 2 ≡ 0 → x ≡ y
    equal x y hx hy h = omega arith

parities_even : (ws : List ℕ) (a b : ℕ) → parities ws a ≡ parities ws b → x_free ws (bit_xor a b) ≡ true
unfolding parities x_free
parities_even [] a b h = refl
parities_even (w ∷ ws) a b h =
    x_free_cons w ws (bit_xor a b)
    (same_even w a b (low (parity w a) (parity w b) (parities ws a) (parities ws b) (parity_lt w a) (parity_lt w b) h))
    (parities_even ws a b (rest (parity w a) (parity w b) (parities ws a) (parities ws b) (parity_lt w a) (parity_lt w b) h))
  where
    low : (p q x y : ℕ) → p < 2 → q < 2 → p + 2 * x ≡ q + 2 * y → p ≡ q
    low p q x y hp hq e = omega arith

    rest : (p q x y : ℕ) → p < 2 → q < 2 → p + 2 * x ≡ q + 2 * y → x ≡ y
    rest p q x y hp hq e = omega arith

even_parities : (ws : List ℕ) (a b : ℕ) → x_free ws (bit_xor a b) ≡ true → parities ws a ≡ parities ws b
unfolding parities
even_parities [] a b h = refl
even_parities (w ∷ ws) a b h =
    ap₂ (λ (x y : ℕ). x + 2 * y) (even_same w a b (x_free_head w ws (bit_xor a b) h))
    (even_parities ws a b (x_free_tail w ws (bit_xor a b) h))

pub same_exactly : (ws : List ℕ) (a b : ℕ) → x_free ws (bit_xor a b) ≡ eqb (parities ws a) (parities ws b)
same_exactly ws a b =
    iff_eq _ _ (λ (h : x_free ws (bit_xor a b) ≡ true). eq-eqb _ _ (even_parities ws a b h))
    (λ (h : eqb (parities ws a) (parities ws b) ≡ true). parities_even ws a b (eqb-true _ _ h))

pub even_exactly : (ws : List ℕ) (c : ℕ) → x_free ws c ≡ eqb (parities ws c) 0
even_exactly ws c = ap (x_free ws) (sym (xor_zero_r c)) ∙ same_exactly ws c 0 ∙ ap (eqb (parities ws c)) (parities_zero ws)
