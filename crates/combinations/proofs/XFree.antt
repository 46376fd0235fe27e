-- The laws of x_free: closed under XOR, and what a longer list adds. Assumes nothing.
use mathlib.Core.Path.{◌≡◌, refl, sym, ap, ◌∙◌}
use mathlib.Core.Bool.{Bool, true, ◌&&◌, and_assoc}
use mathlib.Core.List.{List, [], ◌∷◌, ◌++◌}
use Prim.Native.Nat.{ℕ, ◌+◌, ◌%◌}
use borrow.Author.Tests.{eqb-true, eq-eqb}
use lib.Bits.{bit_xor}
use lib.Dec.{eqb}
use Rattle.word.specs.Word.{parity}
use Rattle.word.proofs.Laws.{parity_xor, parity_zero}
use Rattle.word.proofs.BoolLaws.{and_left, and_right, and_intro}
use Rattle.combinations.specs.Combination.{x_free}

pub x_free_cons : (c : ℕ) (cs : List ℕ) (w : ℕ) → parity w c ≡ 0 → x_free cs w ≡ true → x_free (c ∷ cs) w ≡ true
unfolding x_free
x_free_cons c cs w e h = and_intro _ _ (eq-eqb (parity w c) 0 e) h

pub x_free_head : (c : ℕ) (cs : List ℕ) (w : ℕ) → x_free (c ∷ cs) w ≡ true → parity w c ≡ 0
unfolding x_free
x_free_head c cs w h = eqb-true (parity w c) 0 (and_left _ _ h)

pub x_free_tail : (c : ℕ) (cs : List ℕ) (w : ℕ) → x_free (c ∷ cs) w ≡ true → x_free cs w ≡ true
unfolding x_free
x_free_tail c cs w h = and_right (eqb (parity w c) 0) _ h

pub x_free_zero : (cs : List ℕ) → x_free cs 0 ≡ true
unfolding x_free
x_free_zero [] = refl
x_free_zero (c ∷ cs) = x_free_cons c cs 0 (parity_zero c) (x_free_zero cs)

even_sum : (p q : ℕ) → p ≡ 0 → q ≡ 0 → (p + q) % 2 ≡ 0
even_sum p q a b = rw (a, b)

pub x_free_xor : (cs : List ℕ) (a b : ℕ) → x_free cs a ≡ true → x_free cs b ≡ true → x_free cs (bit_xor a b) ≡ true
unfolding x_free
x_free_xor [] a b ha hb = refl
x_free_xor (c ∷ cs) a b ha hb =
    x_free_cons c cs (bit_xor a b)
    (parity_xor a b c ∙ even_sum (parity a c) (parity b c) (x_free_head c cs a ha) (x_free_head c cs b hb))
    (x_free_xor cs a b (x_free_tail c cs a ha) (x_free_tail c cs b hb))

pub x_free_append : (cs ds : List ℕ) (w : ℕ) → x_free (cs ++ ds) w ≡ (x_free cs w && x_free ds w)
unfolding x_free
x_free_append [] ds w = refl
x_free_append (c ∷ cs) ds w =
    ap (λ (b : Bool). eqb (parity w c) 0 && b) (x_free_append cs ds w)
    ∙ sym (and_assoc (eqb (parity w c) 0) (x_free cs w) (x_free ds w))
