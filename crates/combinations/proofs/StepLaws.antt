-- What one column's step does: the XORs of the words after it, what is even with all of them, and how many they are.
-- Assumes nothing.
use mathlib.Core.Path.{◌≡◌, refl, sym, ap, ap₂, ◌∙◌}
use mathlib.Core.Bool.{Bool, true, false, ◌&&◌, ◌||◌, and_comm, and_assoc, and-true, or_comm, or-false}
use mathlib.Core.Logic.{⊎_elim}
use mathlib.Core.List.{List, [], ◌∷◌, ◌++◌}
use Prim.Native.Nat.{ℕ, suc, ◌+◌, ◌%◌, ◌<◌}
use native.Mathlib.Omega.{arith}
use borrow.Author.Tests.{eqb-true, eq-eqb}
use lib.Bits.{bit_xor, xor_comm}
use lib.Dec.{eqb}
use lib.ListN.{length}
use Rattle.word.specs.Word.{parity}
use Rattle.word.proofs.Laws.{xor_assoc, xor_cancel, xor_left_comm, xor_zero_eq, parity_xor, parity_xor_right, parity_lt, parity_cases, parity_comm, parity_zero}
use Rattle.word.proofs.BoolLaws.{and_left, and_right, or_cases, and_intro, iff_eq, true_not_false}
use Rattle.combinations.specs.Combination.{x_free}
use Rattle.word.specs.Span.{is_xor_of}
use Rattle.combinations.specs.Step.{cleared, step, steps}
use Rattle.combinations.proofs.XFree.{x_free_head, x_free_tail}
use Rattle.word.proofs.SpanLaws.{xor_of_cons}

abbrev even : ℕ → ℕ → Bool
even c y = eqb (parity y c) 0

-- ---- the equations of the step

pub cleared_even : (c p w : ℕ) (ws : List ℕ) → parity w c ≡ 0 → cleared c p (w ∷ ws) ≡ w ∷ cleared c p ws
unfolding cleared
cleared_even c p w ws h = rw h

pub cleared_odd : (c p w : ℕ) (ws : List ℕ) → parity w c ≡ 1 → cleared c p (w ∷ ws) ≡ bit_xor w p ∷ cleared c p ws
unfolding cleared
cleared_odd c p w ws h = rw h

pub step_even : (c w : ℕ) (ws : List ℕ) → parity w c ≡ 0 → step c (w ∷ ws) ≡ w ∷ step c ws
unfolding step
step_even c w ws h = rw h

pub step_odd : (c w : ℕ) (ws : List ℕ) → parity w c ≡ 1 → step c (w ∷ ws) ≡ cleared c w ws
unfolding step
step_odd c w ws h = rw h

-- ---- parities

skip_even : (p q : ℕ) → q < 2 → p ≡ 0 → (p + q) % 2 ≡ q
skip_even p q h e = omega arith

even_xor : (c w y : ℕ) → parity w c ≡ 0 → even c (bit_xor w y) ≡ even c y
even_xor c w y h =
    ap (λ (x : ℕ). eqb x 0) (parity_xor w y c ∙ skip_even (parity w c) (parity y c) (parity_lt y c) h)

odd_odd : (c w p : ℕ) → parity w c ≡ 1 → parity p c ≡ 1 → parity (bit_xor w p) c ≡ 0
odd_odd c w p hw hp = parity_xor w p c ∙ ap₂ (λ (x y : ℕ). (x + y) % 2) hw hp

-- ---- the XORs of the words after a step: those of the words before that are even with the column

or_spread_twice : (e a b c d : Bool) → ((e && (a || b)) || (e && (c || d))) ≡ (e && ((a || c) || (b || d)))
or_spread_twice false a b c d = refl
or_spread_twice true true b c d = refl
or_spread_twice true false true true d = refl
or_spread_twice true false true false d = refl
or_spread_twice true false false true d = refl
or_spread_twice true false false false d = refl

cleared_span_nil : (c p y : ℕ) → parity p c ≡ 1 → is_xor_of [] y ≡ (even c y && (is_xor_of [] y || is_xor_of [] (bit_xor p y)))
unfolding is_xor_of
cleared_span_nil c p y hp =
    iff_eq _ _ (λ (h : eqb y 0 ≡ true). and_intro _ _ (zero_even h) (rw h))
    (λ (h : (even c y && (eqb y 0 || eqb (bit_xor p y) 0)) ≡ true).
    ⊎_elim (λ (z : eqb y 0 ≡ true). z)
    (λ (z : eqb (bit_xor p y) 0 ≡ true). absurd (pivot (and_left (even c y) _ h) z)) (or_cases _ _ (and_right (even c y) _ h)))
  where
    zero_even : eqb y 0 ≡ true → even c y ≡ true
    zero_even h = eq-eqb _ _ (ap (λ (x : ℕ). parity x c) (eqb-true y 0 h) ∙ parity_zero c)

    pivot : even c y ≡ true → eqb (bit_xor p y) 0 ≡ true → ⊥
    pivot h z =
        let same : p ≡ y = xor_zero_eq p y (eqb-true _ _ z) in
        let zero_parity : parity y c ≡ 0 = eqb-true _ _ h in
        let one_parity : parity y c ≡ 1 = ap (λ (x : ℕ). parity x c) (sym same) ∙ hp in
        omega arith

pub cleared_span : (c p : ℕ) (ws : List ℕ) (y : ℕ) → parity p c ≡ 1
    → is_xor_of (cleared c p ws) y ≡ (even c y && (is_xor_of ws y || is_xor_of ws (bit_xor p y)))
unfolding cleared
cleared_span c p [] y hp = cleared_span_nil c p y hp
cleared_span c p (w ∷ ws) y hp =
    ⊎_elim
    (λ (h : parity w c ≡ 0).
    ap (λ (l : List ℕ). is_xor_of l y) (cleared_even c p w ws h) ∙ xor_of_cons w (cleared c p ws) y
    ∙ ap₂ ◌||◌ (cleared_span c p ws y hp) (cleared_span c p ws (bit_xor w y) hp)
    ∙ ap₂ (λ (e d : Bool). (even c y && (A y || A (bit_xor p y))) || (e && (A (bit_xor w y) || d))) (even_xor c w y h)
    (ap A (xor_left_comm p w y))
    ∙ or_spread_twice (even c y) (A y) (A (bit_xor p y)) (A (bit_xor w y)) (A (bit_xor w (bit_xor p y)))
    ∙ ap₂ (λ (a b : Bool). even c y && (a || b)) (sym (xor_of_cons w ws y)) (sym (xor_of_cons w ws (bit_xor p y))))
    (λ (h : parity w c ≡ 1).
    ap (λ (l : List ℕ). is_xor_of l y) (cleared_odd c p w ws h) ∙ xor_of_cons (bit_xor w p) (cleared c p ws) y
    ∙ ap₂ ◌||◌ (cleared_span c p ws y hp) (cleared_span c p ws (bit_xor (bit_xor w p) y) hp)
    ∙ ap₂ (λ (e d : Bool). (even c y && (A y || A (bit_xor p y))) || (e && d))
    (even_xor c (bit_xor w p) y (odd_odd c w p h hp))
    (ap₂ ◌||◌ (ap A (xor_assoc w p y)) (ap A (pivot_twice w)) ∙ or_comm (A (bit_xor w (bit_xor p y))) (A (bit_xor w y)))
    ∙ or_spread_twice (even c y) (A y) (A (bit_xor p y)) (A (bit_xor w y)) (A (bit_xor w (bit_xor p y)))
    ∙ ap₂ (λ (a b : Bool). even c y && (a || b)) (sym (xor_of_cons w ws y)) (sym (xor_of_cons w ws (bit_xor p y))))
    (parity_cases w c)
  where
    A : ℕ → Bool
    A = is_xor_of ws

    pivot_twice : (w : ℕ) → bit_xor p (bit_xor (bit_xor w p) y) ≡ bit_xor w y
    pivot_twice w =
        ap (bit_xor p) (ap (λ (x : ℕ). bit_xor x y) (xor_comm w p) ∙ xor_assoc p w y) ∙ xor_cancel p (bit_xor w y)

bool_step : (a b e : Bool) → ((a && e) || (b && e)) ≡ ((a || b) && e)
bool_step true true true = refl
bool_step true true false = refl
bool_step true false true = refl
bool_step true false false = refl
bool_step false b e = refl

step_span_nil : (c y : ℕ) → is_xor_of [] y ≡ (is_xor_of [] y && even c y)
unfolding is_xor_of
step_span_nil c y =
    iff_eq _ _
    (λ (h : eqb y 0 ≡ true).
    and_intro _ _ h (eq-eqb _ _ (ap (λ (x : ℕ). parity x c) (eqb-true y 0 h) ∙ parity_zero c)))
    (λ (h : (eqb y 0 && even c y) ≡ true). and_left _ _ h)

pub step_span : (c : ℕ) (ws : List ℕ) (y : ℕ) → is_xor_of (step c ws) y ≡ (is_xor_of ws y && eqb (parity y c) 0)
unfolding step
step_span c [] y = step_span_nil c y
step_span c (w ∷ ws) y =
    ⊎_elim
    (λ (h : parity w c ≡ 0).
    ap (λ (l : List ℕ). is_xor_of l y) (step_even c w ws h) ∙ xor_of_cons w (step c ws) y
    ∙ ap₂ ◌||◌ (step_span c ws y)
    (step_span c ws (bit_xor w y) ∙ ap (λ (e : Bool). is_xor_of ws (bit_xor w y) && e) (even_xor c w y h))
    ∙ bool_step (is_xor_of ws y) (is_xor_of ws (bit_xor w y)) (even c y)
    ∙ ap (λ (a : Bool). a && even c y) (sym (xor_of_cons w ws y)))
    (λ (h : parity w c ≡ 1).
    ap (λ (l : List ℕ). is_xor_of l y) (step_odd c w ws h) ∙ cleared_span c w ws y h
    ∙ and_comm (even c y) (is_xor_of ws y || is_xor_of ws (bit_xor w y))
    ∙ ap (λ (a : Bool). a && even c y) (sym (xor_of_cons w ws y)))
    (parity_cases w c)

-- no word stays no word
pub steps_none : (cs : List ℕ) → steps cs [] ≡ []
unfolding steps step
steps_none [] = refl
steps_none (c ∷ cs) = steps_none cs

pub steps_append : (cs ds ws : List ℕ) → steps (cs ++ ds) ws ≡ steps ds (steps cs ws)
unfolding steps
steps_append [] ds ws = refl
steps_append (c ∷ cs) ds ws = steps_append cs ds (step c ws)

pub steps_span : (cs ws : List ℕ) (y : ℕ) → is_xor_of (steps cs ws) y ≡ (is_xor_of ws y && x_free cs y)
unfolding steps x_free
steps_span [] ws y = sym (and-true (is_xor_of ws y))
steps_span (c ∷ cs) ws y =
    steps_span cs (step c ws) y ∙ ap (λ (a : Bool). a && x_free cs y) (step_span c ws y)
    ∙ and_assoc (is_xor_of ws y) (even c y) (x_free cs y)

-- ---- what is even with every word after a step: what was so before, and that with the column XORed in

x_free_eq : (c : ℕ) (cs : List ℕ) (y : ℕ) → x_free (c ∷ cs) y ≡ (eqb (parity y c) 0 && x_free cs y)
unfolding x_free
x_free_eq c cs y = refl

add_even : (p q : ℕ) → p < 2 → q ≡ 0 → (p + q) % 2 ≡ p
add_even p q h e = omega arith

-- where y is even with the pivot, clearing changes nothing for it
cleared_dual_even : (c p : ℕ) (ws : List ℕ) (y : ℕ) → parity y p ≡ 0 → x_free (cleared c p ws) y ≡ x_free ws y
unfolding cleared
cleared_dual_even c p [] y h = refl
cleared_dual_even c p (w ∷ ws) y h =
    ⊎_elim
    (λ (e : parity w c ≡ 0).
    ap (λ (l : List ℕ). x_free l y) (cleared_even c p w ws e) ∙ x_free_eq w (cleared c p ws) y
    ∙ ap (λ (b : Bool). even w y && b) (cleared_dual_even c p ws y h) ∙ sym (x_free_eq w ws y))
    (λ (e : parity w c ≡ 1).
    ap (λ (l : List ℕ). x_free l y) (cleared_odd c p w ws e) ∙ x_free_eq (bit_xor w p) (cleared c p ws) y
    ∙ ap₂ (λ (n : ℕ) (b : Bool). eqb n 0 && b)
    (parity_xor_right y w p ∙ add_even (parity y w) (parity y p) (parity_lt y w) h) (cleared_dual_even c p ws y h)
    ∙ sym (x_free_eq w ws y))
    (parity_cases w c)

no_columns : (a b : ℕ) → x_free [] a ≡ x_free [] b
unfolding x_free
no_columns a b = refl

-- where y is odd with the pivot, clearing has the effect of the column
cleared_dual_odd : (c p : ℕ) (ws : List ℕ) (y : ℕ) → parity y p ≡ 1 → x_free (cleared c p ws) y ≡ x_free ws (bit_xor c y)
unfolding cleared
cleared_dual_odd c p [] y h = no_columns y (bit_xor c y)
cleared_dual_odd c p (w ∷ ws) y h =
    ⊎_elim
    (λ (e : parity w c ≡ 0).
    ap (λ (l : List ℕ). x_free l y) (cleared_even c p w ws e) ∙ x_free_eq w (cleared c p ws) y
    ∙ ap₂ (λ (n : ℕ) (b : Bool). eqb n 0 && b)
    (sym (parity_xor c y w ∙ skip_even (parity c w) (parity y w) (parity_lt y w) (parity_comm c w ∙ e)))
    (cleared_dual_odd c p ws y h)
    ∙ sym (x_free_eq w ws (bit_xor c y)))
    (λ (e : parity w c ≡ 1).
    ap (λ (l : List ℕ). x_free l y) (cleared_odd c p w ws e) ∙ x_free_eq (bit_xor w p) (cleared c p ws) y
    ∙ ap₂ (λ (n : ℕ) (b : Bool). eqb n 0 && b)
    (parity_xor_right y w p ∙ swapped (parity y w) (parity y p) (parity c w) h (parity_comm c w ∙ e)
    ∙ sym (parity_xor c y w))
    (cleared_dual_odd c p ws y h)
    ∙ sym (x_free_eq w ws (bit_xor c y)))
    (parity_cases w c)
  where
    swapped : (a b d : ℕ) → b ≡ 1 → d ≡ 1 → (a + b) % 2 ≡ (d + a) % 2
    swapped a b d hb hd = omega arith

and_or_spread : (e a b : Bool) → (e && (a || b)) ≡ ((e && a) || (e && b))
and_or_spread true a b = refl
and_or_spread false a b = refl

pub step_dual : (c : ℕ) (ws : List ℕ) (y : ℕ) → x_free (step c ws) y ≡ (x_free ws y || x_free ws (bit_xor c y))
unfolding step x_free
step_dual c [] y = refl
step_dual c (w ∷ ws) y =
    ⊎_elim
    (λ (e : parity w c ≡ 0).
    ap (λ (l : List ℕ). x_free l y) (step_even c w ws e)
    ∙ ap (λ (b : Bool). even w y && b) (step_dual c ws y)
    ∙ and_or_spread (even w y) (x_free ws y) (x_free ws (bit_xor c y))
    ∙ ap (λ (n : ℕ). (even w y && x_free ws y) || (eqb n 0 && x_free ws (bit_xor c y)))
    (sym (parity_xor c y w ∙ skip_even (parity c w) (parity y w) (parity_lt y w) (parity_comm c w ∙ e))))
    (λ (e : parity w c ≡ 1).
    ap (λ (l : List ℕ). x_free l y) (step_odd c w ws e)
    ∙ ⊎_elim
    (λ (d : parity y w ≡ 0).
    cleared_dual_even c w ws y d ∙ sym (or-false (x_free ws y))
    ∙ ap₂ (λ (n k : ℕ). (eqb n 0 && x_free ws y) || (eqb k 0 && x_free ws (bit_xor c y))) (sym d)
    (sym (parity_xor c y w ∙ ap₂ (λ (n k : ℕ). (n + k) % 2) (parity_comm c w ∙ e) d)))
    (λ (d : parity y w ≡ 1).
    cleared_dual_odd c w ws y d
    ∙ ap₂ (λ (n k : ℕ). (eqb n 0 && x_free ws y) || (eqb k 0 && x_free ws (bit_xor c y))) (sym d)
    (sym (parity_xor c y w ∙ ap₂ (λ (n k : ℕ). (n + k) % 2) (parity_comm c w ∙ e) d)))
    (parity_cases y w))
    (parity_cases w c)

-- ---- how many words a step leaves

pub length_cleared : (c p : ℕ) (ws : List ℕ) → length (cleared c p ws) ≡ length ws
unfolding cleared
length_cleared c p [] = refl
length_cleared c p (w ∷ ws) = ap suc (length_cleared c p ws)

-- a column that is even with every word leaves them as they are
pub step_same : (c : ℕ) (ws : List ℕ) → x_free ws c ≡ true → step c ws ≡ ws
unfolding step
step_same c [] h = refl
step_same c (w ∷ ws) h =
    step_even c w ws (parity_comm w c ∙ x_free_head w ws c h) ∙ ap (λ (l : List ℕ). w ∷ l) (step_same c ws (x_free_tail w ws c h))

-- any other takes one word away
pub step_less : (c : ℕ) (ws : List ℕ) → x_free ws c ≡ false → suc (length (step c ws)) ≡ length ws
unfolding step x_free
step_less c [] h = absurd (true_not_false true refl h)
step_less c (w ∷ ws) h =
    ⊎_elim
    (λ (e : parity w c ≡ 0).
    ap (λ (l : List ℕ). suc (length l)) (step_even c w ws e)
    ∙ ap suc (step_less c ws (rw (parity_comm c w ∙ e) at h)))
    (λ (e : parity w c ≡ 1).
    ap (λ (l : List ℕ). suc (length l)) (step_odd c w ws e) ∙ ap suc (length_cleared c w ws))
    (parity_cases w c)
