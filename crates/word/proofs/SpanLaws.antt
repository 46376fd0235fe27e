-- The laws of is_xor_of: closed under XOR, and what a longer list adds. Assumes nothing.
use mathlib.Core.Path.{◌≡◌, refl, sym, ap, ap₂, ◌∙◌}
use mathlib.Core.Bool.{true, ◌||◌}
use mathlib.Core.Logic.{◌⊎◌, inl, inr, ⊎_elim}
use mathlib.Core.List.{List, [], ◌∷◌, ◌++◌}
use Prim.Native.Nat.{ℕ}
use borrow.Author.Tests.{eqb-true}
use lib.Bits.{bit_xor, xor_comm, xor_self}
use Rattle.word.specs.Span.{is_xor_of}
use Rattle.word.proofs.Laws.{xor_assoc, xor_cancel, xor_left_comm, xor_zero_eq}
use Rattle.word.proofs.BoolLaws.{or_cases, or_true_left, or_true_right}

-- ---- the XOR of some of a list

pub xor_of_zero : (ws : List ℕ) → is_xor_of ws 0 ≡ true
unfolding is_xor_of
xor_of_zero [] = refl
xor_of_zero (w ∷ ws) = or_true_left _ _ (xor_of_zero ws)

pub xor_of_tail : (w : ℕ) (ws : List ℕ) (y : ℕ) → is_xor_of ws y ≡ true → is_xor_of (w ∷ ws) y ≡ true
unfolding is_xor_of
xor_of_tail w ws y h = or_true_left _ _ h

pub xor_of_with : (w : ℕ) (ws : List ℕ) (y : ℕ) → is_xor_of ws (bit_xor w y) ≡ true → is_xor_of (w ∷ ws) y ≡ true
unfolding is_xor_of
xor_of_with w ws y h = or_true_right (is_xor_of ws y) _ h

pub xor_of_cases : (w : ℕ) (ws : List ℕ) (y : ℕ) → is_xor_of (w ∷ ws) y ≡ true → (is_xor_of ws y ≡ true) ⊎ (is_xor_of ws (bit_xor w y) ≡ true)
unfolding is_xor_of
xor_of_cases w ws y h = or_cases _ _ h

pub xor_of_cons : (w : ℕ) (ws : List ℕ) (y : ℕ) → is_xor_of (w ∷ ws) y ≡ (is_xor_of ws y || is_xor_of ws (bit_xor w y))
unfolding is_xor_of
xor_of_cons w ws y = refl

pub xor_of_nil : (y : ℕ) → is_xor_of [] y ≡ true → y ≡ 0
unfolding is_xor_of
xor_of_nil y h = eqb-true y 0 h

pub xor_of_head : (w : ℕ) (ws : List ℕ) → is_xor_of (w ∷ ws) w ≡ true
xor_of_head w ws = xor_of_with w ws w (ap (is_xor_of ws) (xor_self w) ∙ xor_of_zero ws)

-- a word in both of two XORs falls out
pub both_with : (w a b : ℕ) → bit_xor (bit_xor w a) (bit_xor w b) ≡ bit_xor a b
both_with w a b =
    ap (λ (x : ℕ). bit_xor x (bit_xor w b)) (xor_comm w a) ∙ xor_assoc a w (bit_xor w b) ∙ ap (bit_xor a) (xor_cancel w b)

pub xor_of_xor : (ws : List ℕ) (a b : ℕ) → is_xor_of ws a ≡ true → is_xor_of ws b ≡ true → is_xor_of ws (bit_xor a b) ≡ true
xor_of_xor [] a b ha hb =
    ap₂ (λ (x y : ℕ). is_xor_of [] (bit_xor x y)) (xor_of_nil a ha) (xor_of_nil b hb) ∙ xor_of_zero []
xor_of_xor (w ∷ ws) a b ha hb =
    ⊎_elim
    (λ (pa : is_xor_of ws a ≡ true).
    ⊎_elim (λ (pb : is_xor_of ws b ≡ true). xor_of_tail w ws (bit_xor a b) (xor_of_xor ws a b pa pb))
    (λ (pb : is_xor_of ws (bit_xor w b) ≡ true).
    xor_of_with w ws (bit_xor a b) (ap (is_xor_of ws) (xor_left_comm w a b) ∙ xor_of_xor ws a (bit_xor w b) pa pb))
    (xor_of_cases w ws b hb))
    (λ (pa : is_xor_of ws (bit_xor w a) ≡ true).
    ⊎_elim
    (λ (pb : is_xor_of ws b ≡ true).
    xor_of_with w ws (bit_xor a b) (ap (is_xor_of ws) (sym (xor_assoc w a b)) ∙ xor_of_xor ws (bit_xor w a) b pa pb))
    (λ (pb : is_xor_of ws (bit_xor w b) ≡ true).
    xor_of_tail w ws (bit_xor a b)
    (ap (is_xor_of ws) (sym (both_with w a b)) ∙ xor_of_xor ws (bit_xor w a) (bit_xor w b) pa pb))
    (xor_of_cases w ws b hb))
    (xor_of_cases w ws a ha)

-- ---- two lists one after the other

pub xor_of_join : (us vs : List ℕ) (a y : ℕ) → is_xor_of us a ≡ true → is_xor_of vs (bit_xor a y) ≡ true → is_xor_of (us ++ vs) y ≡ true
xor_of_join [] vs a y ha hv = ap (λ (x : ℕ). is_xor_of vs (bit_xor x y)) (sym (xor_of_nil a ha)) ∙ hv
xor_of_join (u ∷ us) vs a y ha hv =
    ⊎_elim (λ (p : is_xor_of us a ≡ true). xor_of_tail u (us ++ vs) y (xor_of_join us vs a y p hv))
    (λ (p : is_xor_of us (bit_xor u a) ≡ true).
    xor_of_with u (us ++ vs) y
    (xor_of_join us vs (bit_xor u a) (bit_xor u y) p (ap (is_xor_of vs) (both_with u a y) ∙ hv)))
    (xor_of_cases u us a ha)

pub xor_of_split : (us vs : List ℕ) (y : ℕ) → is_xor_of (us ++ vs) y ≡ true → (a : ℕ) × (is_xor_of us a ≡ true) × (is_xor_of vs (bit_xor a y) ≡ true)
xor_of_split [] vs y h = (0, xor_of_zero [], h)
xor_of_split (u ∷ us) vs y h =
    ⊎_elim
    (λ (p : is_xor_of (us ++ vs) y ≡ true).
    let (a, (ha, hv)) = regroup (xor_of_split us vs y p) in
    (a, xor_of_tail u us a ha, hv))
    (λ (p : is_xor_of (us ++ vs) (bit_xor u y) ≡ true).
    let (a, (ha, hv)) = regroup (xor_of_split us vs (bit_xor u y) p) in
    (bit_xor u a, xor_of_with u us (bit_xor u a) (ap (is_xor_of us) (xor_cancel u a) ∙ ha), ap (is_xor_of vs) (across u a y) ∙ hv))
    (xor_of_cases u (us ++ vs) y h)
  where
    regroup : {A : Type 0} {B : A → Type 0} {C : A → Type 0} → (a : A) × B a × C a → (a : A) × (B a × C a)
    regroup t = (t.0, (t.1, t.2))

    across : (u a y : ℕ) → bit_xor (bit_xor u a) y ≡ bit_xor a (bit_xor u y)
    across u a y = xor_assoc u a y ∙ xor_left_comm u a y

pub xor_of_left : (us vs : List ℕ) (y : ℕ) → is_xor_of us y ≡ true → is_xor_of (us ++ vs) y ≡ true
xor_of_left us vs y h = xor_of_join us vs y y h (ap (is_xor_of vs) (xor_self y) ∙ xor_of_zero vs)

pub xor_of_right : (us vs : List ℕ) (y : ℕ) → is_xor_of vs y ≡ true → is_xor_of (us ++ vs) y ≡ true
xor_of_right us vs y h = xor_of_join us vs 0 y (xor_of_zero us) h

-- the XORs of one word are 0 and that word
pub xor_of_one : (w y : ℕ) → is_xor_of (w ∷ []) y ≡ true → (y ≡ 0) ⊎ (y ≡ w)
xor_of_one w y h =
    ⊎_elim (λ (p : is_xor_of [] y ≡ true). inl (xor_of_nil y p))
    (λ (p : is_xor_of [] (bit_xor w y) ≡ true). inr (sym (xor_zero_eq w y (xor_of_nil (bit_xor w y) p)))) (xor_of_cases w [] y h)
