-- Document 01's test for a reduced list says the same as the highest bits of Tops. Assumes nothing.
use mathlib.Core.Path.{◌≡◌, refl, sym, ap, ◌∙◌, subst}
use mathlib.Core.Bool.{true, not, ◌&&◌}
use mathlib.Core.List.{List, [], ◌∷◌}
use Prim.Native.Nat.{ℕ, zero, suc, ◌+◌, ◌-◌, ◌*◌, ◌/◌, ◌%◌, ◌^◌, ◌<◌, ◌≤◌}
use native.Mathlib.Nat.{lt_of_lt_of_le, le_trans, le_refl, le_step, div-eq_of_lt-le, lt_of_not-le, not-le_of_lt, pos_of_ne-zero, one-mul, le-div_iff_mul-le}
use native.Mathlib.Decide.{dec_le}
use native.Mathlib.Omega.{arith}
use borrow.Author.Tests.{eqb-true, eq-eqb, ne_eqb, eqb-false, lt-ltb, ltb-true, lt-leb, leb-false, not-true}
use lib.Dec.{eqb, leb}
use lib.ListN.{get_or}
use lib.Pow.{pow_pos, pow_mono, split}
use lib.Count.{count_leading_zeros, leading_top, leading_unique}
use Rattle.word.specs.Word.{digit, beyond, highest_bit}
use Rattle.word.specs.Some.{all_of}
use Rattle.word.proofs.BoolLaws.{and_left, and_right, and_intro}
use Rattle.combinations.specs.Reduced.{below_head, ascending, top_clear, tops_clear, is_reduced}
use Rattle.combinations.proofs.Tops.{ClearIn, clear_nil, clear_cons, Tops, tops_nil, tops_cons, top_below, top_least, top_positive, below_shr}

-- ---- the highest bit of a word

pub highest_of_top : (i w : ℕ) → i < 64 → w / 2 ^ i ≡ 1 → highest_bit w ≡ i
unfolding highest_bit
highest_of_top i w h t =
    let zeros : 63 - i ≡ count_leading_zeros 64 w =
    leading_unique 64 w (63 - i) (suc i) (omega arith) (top_below i w t) (twice i w t)
    in
    ap (λ (x : ℕ). 63 - x) (sym zeros) ∙ omega arith
  where
    twice : (i w : ℕ) → w / 2 ^ i ≡ 1 → 2 ^ suc i ≤ 2 * w + 1
    twice i w t = omega (arith, split w i, ap (λ (x : ℕ). x * 2 ^ i) t)

pub top_of_highest : (w : ℕ) → (w ≡ 0 → ⊥) → w < 2 ^ 64 → w / 2 ^ highest_bit w ≡ 1
unfolding highest_bit
top_of_highest w n h =
    let t = leading_top 64 w (pos_of_ne-zero n) h in
    let place : 63 - count_leading_zeros 64 w ≡ t.0 = place_of (count_leading_zeros 64 w) t.0 t.1 in
    let low : 1 * 2 ^ t.0 ≤ w = subst (λ (x : ℕ). x ≤ w) (sym (one-mul (2 ^ t.0))) t.2 in
    let high : w < (1 + 1) * 2 ^ t.0 = subst (λ (x : ℕ). w < x) (double t.0) t.3 in
    ap (λ (x : ℕ). w / 2 ^ x) place ∙ div-eq_of_lt-le (2 ^ t.0) low high
  where
    place_of : (z j : ℕ) → z + suc j ≡ 64 → 63 - z ≡ j
    place_of z j e = omega arith

    double : (j : ℕ) → 2 ^ suc j ≡ (1 + 1) * 2 ^ j
    double j = omega arith

-- the highest bit of a word below 2 ^ m is below m
pub highest_below : (m w : ℕ) → m ≤ 64 → (w ≡ 0 → ⊥) → w < 2 ^ m → highest_bit w < m
highest_below m w h n l =
    let t : w / 2 ^ highest_bit w ≡ 1 = top_of_highest w n (lt_of_lt_of_le l (pow_mono h)) in
    elim (dec_le m (highest_bit w)) [
      | yes g ↦
          let z : w / 2 ^ highest_bit w ≡ 0 = below_shr (highest_bit w) w (lt_of_lt_of_le l (pow_mono g)) in
          let no : ⊥ = omega arith in
          absurd no
      | no g ↦ lt_of_not-le g
    ]

-- ---- from the highest bits to the test

good : (m w : ℕ) → (w ≡ 0 → ⊥) → w < 2 ^ m → (not (eqb w 0) && not (beyond m w)) ≡ true
unfolding beyond
good m w n l = and_intro _ _ (ap not (ne_eqb w 0 n)) (ap not (lt-leb (2 ^ m) w l))

tops_good : (m : ℕ) {k : ℕ} {ws : List ℕ} → Tops m k ws → all_of (λ w. not (eqb w 0) && not (beyond m w)) ws ≡ true
unfolding all_of
tops_good m tops_nil = refl
tops_good m (tops_cons {w = w} i ki im t r rest) =
    and_intro _ _ (good m w (top_positive i w t) (lt_of_lt_of_le (top_below i w t) (pow_mono im))) (tops_good m rest)

head_above : (m : ℕ) {k w : ℕ} {ws : List ℕ} → w < 2 ^ k → Tops m k ws → below_head w ws ≡ true
head_above m h tops_nil = refl
head_above m {k = k} {w = w} h (tops_cons {w = v} i ki im t r rest) = lt-ltb w v (lt_of_lt_of_le h (le_trans (pow_mono ki) (top_least i v t)))

tops_ascending : (m : ℕ) {k : ℕ} {ws : List ℕ} → Tops m k ws → ascending ws ≡ true
unfolding ascending
tops_ascending m tops_nil = refl
tops_ascending m (tops_cons {w = w} i ki im t r rest) =
    and_intro _ _ (head_above m (top_below i w t) rest) (tops_ascending m rest)

clear_others : (m i w : ℕ) {k : ℕ} {ws : List ℕ} → m ≤ 64 → i < m → w / 2 ^ i ≡ 1 → suc i ≤ k → ClearIn i ws → Tops m k ws → all_of (λ v. top_clear w v && top_clear v w) ws ≡ true
unfolding all_of
clear_others m i w h im t ik clear_nil tops_nil = refl
clear_others m i w h im t ik (clear_cons {w = v} d r) (tops_cons j kj jm tv rv rest) =
    let above : i < j = le_trans ik kj in
    let here : digit (highest_bit w) v ≡ 0 = ap (λ (n : ℕ). digit n v) (highest_of_top i w (le_trans im h) t) ∙ d in
    let there : digit (highest_bit v) w ≡ 0 =
    ap (λ (n : ℕ). digit n w) (highest_of_top j v (le_trans jm h) tv)
    ∙ ap (λ (x : ℕ). x % 2) (below_shr j w (lt_of_lt_of_le (top_below i w t) (pow_mono above)))
    in
    and_intro _ _ (and_intro _ _ (eq-eqb _ _ here) (eq-eqb _ _ there))
    (clear_others m i w h im t (le_trans above (le_step (le_refl j))) r rest)

tops_clear_lem : (m : ℕ) {k : ℕ} {ws : List ℕ} → m ≤ 64 → Tops m k ws → tops_clear ws ≡ true
unfolding tops_clear
tops_clear_lem m h tops_nil = refl
tops_clear_lem m h (tops_cons {w = w} i ki im t r rest) =
    and_intro _ _ (clear_others m i w h im t (le_refl (suc i)) r rest) (tops_clear_lem m h rest)

pub reduced_of_tops : (m : ℕ) (ws : List ℕ) → m ≤ 64 → Tops m 0 ws → is_reduced m ws ≡ true
unfolding is_reduced
reduced_of_tops m ws h t = and_intro _ _ (tops_good m t) (and_intro _ _ (tops_ascending m t) (tops_clear_lem m h t))

-- ---- from the test to the highest bits

clear_in_of : (w : ℕ) (ws : List ℕ) → all_of (λ v. top_clear w v && top_clear v w) ws ≡ true → ClearIn (highest_bit w) ws
unfolding all_of
clear_in_of w [] h = clear_nil
clear_in_of w (v ∷ ws) h =
    clear_cons (eqb-true _ _ (and_left (top_clear w v) (top_clear v w) (and_left (top_clear w v && top_clear v w) _ h)))
    (clear_in_of w ws (and_right (top_clear w v && top_clear v w) _ h))

-- a greater word in which bit i is clear has its highest bit above i
pub clear_above : (i w v : ℕ) → w / 2 ^ i ≡ 1 → w < v → digit i v ≡ 0 → 2 ^ suc i ≤ v
clear_above i w v t l d =
    let least : 1 ≤ v / 2 ^ i = (le-div_iff_mul-le (pow_pos i)).1 (subst (λ (x : ℕ). x ≤ v) (sym (one-mul (2 ^ i))) (omega (arith, split w i, ap (λ (x : ℕ). x * 2 ^ i) t))) in
    let two : 2 ≤ v / 2 ^ i = even_two (v / 2 ^ i) least d in
    omega (arith, (le-div_iff_mul-le (pow_pos i)).0 two)
  where
    even_two : (x : ℕ) → 1 ≤ x → x % 2 ≡ 0 → 2 ≤ x
    even_two x l e = omega arith

data From (k : ℕ) : List ℕ → Type 0 where
  from_nil : From k []
  from_cons : {w : ℕ} {ws : List ℕ} → 2 ^ k ≤ w → From k (w ∷ ws)

from_tail : (i w : ℕ) (ws : List ℕ) → w / 2 ^ i ≡ 1 → below_head w ws ≡ true → ClearIn i ws → From (suc i) ws
from_tail i w [] t b r = from_nil
from_tail i w (v ∷ ws) t b (clear_cons d r) = from_cons (clear_above i w v t (ltb-true w v b) d)

nonzero : (m w : ℕ) → (not (eqb w 0) && not (beyond m w)) ≡ true → w ≡ 0 → ⊥
nonzero m w g = eqb-false w 0 (not-true (eqb w 0) (and_left (not (eqb w 0)) (not (beyond m w)) g))

inside : (m w : ℕ) → (not (eqb w 0) && not (beyond m w)) ≡ true → w < 2 ^ m
unfolding beyond
inside m w g = leb-false (2 ^ m) w (not-true (leb (2 ^ m) w) (and_right (not (eqb w 0)) _ g))

pub from_top : (k i w : ℕ) → 2 ^ k ≤ w → w / 2 ^ i ≡ 1 → k ≤ i
from_top k i w l t =
    elim (dec_le k i) [
      | yes g ↦ g
      | no g ↦ absurd (not-le_of_lt (lt_of_lt_of_le (top_below i w t) (pow_mono (lt_of_not-le g))) l)
    ]

from_zero : (m : ℕ) (ws : List ℕ) → all_of (λ w. not (eqb w 0) && not (beyond m w)) ws ≡ true → From 0 ws
unfolding all_of
from_zero m [] g = from_nil
from_zero m (w ∷ ws) g = from_cons (pos_of_ne-zero (nonzero m w (and_left _ _ g)))

tops_of : (m : ℕ) (ws : List ℕ) (k : ℕ) → m ≤ 64 → From k ws → all_of (λ w. not (eqb w 0) && not (beyond m w)) ws ≡ true
    → ascending ws ≡ true → tops_clear ws ≡ true → Tops m k ws
unfolding all_of ascending tops_clear
tops_of m [] k h f g a c = tops_nil
tops_of m (w ∷ ws) k h (from_cons kw) g a c =
    let n : w ≡ 0 → ⊥ = nonzero m w (and_left _ _ g) in
    let l : w < 2 ^ m = inside m w (and_left _ _ g) in
    let t : w / 2 ^ highest_bit w ≡ 1 = top_of_highest w n (lt_of_lt_of_le l (pow_mono h)) in
    let r : ClearIn (highest_bit w) ws = clear_in_of w ws (and_left _ _ c) in
    tops_cons (highest_bit w) (from_top k (highest_bit w) w kw t) (highest_below m w h n l) t r
    (tops_of m ws (suc (highest_bit w)) h (from_tail (highest_bit w) w ws t (and_left _ _ a) r) (and_right (not (eqb w 0) && not (beyond m w)) _ g) (and_right (below_head w ws) _ a) (and_right (all_of (λ v. top_clear w v && top_clear v w) ws) _ c))

pub tops_of_reduced : (m : ℕ) (ws : List ℕ) → m ≤ 64 → is_reduced m ws ≡ true → Tops m 0 ws
unfolding is_reduced
tops_of_reduced m ws h e =
    let g = and_left (all_of (λ w. not (eqb w 0) && not (beyond m w)) ws) _ e in
    let rest = and_right (all_of (λ w. not (eqb w 0) && not (beyond m w)) ws) _ e in
    tops_of m ws 0 h (from_zero m ws g) g (and_left (ascending ws) _ rest) (and_right (ascending ws) _ rest)

-- ---- the words of a reduced list have no bit at or above m

listed_below : (m : ℕ) (ws : List ℕ) → all_of (λ w. not (eqb w 0) && not (beyond m w)) ws ≡ true → (i : ℕ) → get_or ws i 0 < 2 ^ m
unfolding all_of
listed_below m [] g i = pow_pos m
listed_below m (w ∷ ws) g zero = inside m w (and_left _ _ g)
listed_below m (w ∷ ws) g (suc i) = listed_below m ws (and_right (not (eqb w 0) && not (beyond m w)) _ g) i

pub words_below_lem : (m : ℕ) (ws : List ℕ) → is_reduced m ws ≡ true → (i : ℕ) → get_or ws i 0 < 2 ^ m
unfolding is_reduced
words_below_lem m ws e = listed_below m ws (and_left (all_of (λ w. not (eqb w 0) && not (beyond m w)) ws) _ e)
