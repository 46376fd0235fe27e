-- What the combinations, the rank and the reduced list of document 01 are to each other. Crates above cite these and open no
-- definition. For a width m, columns cs without a bit at or above m, and the reduced list:
--
--   reduced_list_reduced   it is a reduced list for m
--   reduced_list_only      it is the only one whose XORs are the X-free combinations
--   x_free_listed          a combination is X-free exactly when it is an XOR of listed words, or of none
--   explained_listed       a word is an XOR of the columns exactly when it shares an even number of bits with each listed word
--   words_and_rank         the words and the rank make m together
--   only_empty_list        17 applies exactly when the list is empty
--   only_empty_explains    .. exactly when every word below 2 ^ m is an XOR of the columns (and explains_only_empty)
--   portion_after          a portion of columns more is one step more for each
--   step_reduced           .. and one column more is one step
--
-- For any list of words:
--
--   reduced_below          the words of a reduced list have no bit at or above m
--   reduced_exactly        document 01's test for a reduced list is one pass over words of 64 bits
--   Passed                 what is left of that pass decides: where it starts (passed_start), goes on (passed_turn), stops
--                          (passed_stop: no reduced list) and ends (passed_end: a reduced list)
--   same_parities          two signatures have the same parities with the words exactly when each word is even with their XOR
-- Assumes nothing.
use mathlib.Core.Path.{◌≡◌, refl, sym, ap, ap₂, ◌∙◌}
use mathlib.Core.Bool.{Bool, true, false, cond, not, ◌&&◌, ◌||◌, or-false, not-and_self}
use mathlib.Core.List.{List, [], ◌∷◌, ◌++◌, map}
use Prim.Native.Nat.{ℕ, suc, ◌+◌, ◌^◌, ◌<◌, ◌≤◌}
use native.Mathlib.Nat.{add-zero}
use native.Mathlib.Numerals.{add-one}
use native.Mathlib.Omega.{arith}
use borrow.Author.Tests.{eqb-true, eq-eqb, ne_eqb, leb-false, not-true, not-false}
use lib.Bits.{bit_xor, xor_lt}
use lib.Dec.{eqb, eqb-suc-zero}
use lib.ListN.{length, get_or, drop, drop_of_length-le}
use lib.Pow.{pow-lt}
use lib.Seq.{drop-cons}
use Rattle.word.specs.Word.{beyond, parity, digit}
use Rattle.word.specs.Some.{any_of}
use Rattle.word.specs.Parities.{parities}
use Rattle.word.proofs.Laws.{xor_cancel, xor_left_comm, parity_pow}
use Rattle.word.proofs.SomeLaws.{any_below_none, any_below_true, any_of_append}
use Rattle.word.proofs.BoolLaws.{or_false_left, or_false_right, and_right, and_intro, iff_eq}
use Rattle.combinations.specs.Combination.{x_free, member, grown, rank_after, rank, only_empty}
use Rattle.word.specs.Span.{is_xor_of}
use Rattle.combinations.specs.Reduced.{reduced_list, is_reduced}
use Rattle.combinations.specs.Pass.{follows, with_top, one_pass}
use Rattle.combinations.specs.Step.{step, steps, units}
use Rattle.combinations.proofs.XFree.{x_free_zero, x_free_head}
use Rattle.word.proofs.SpanLaws.{xor_of_head}
use Rattle.combinations.proofs.StepLaws.{steps_append, steps_span, step_dual, step_same, step_less}
use Rattle.combinations.proofs.Tops.{Tops, tops_cons, tops_steps, tops_unique, span_below, top_positive, top_digit}
use Rattle.combinations.proofs.Units.{units_tops, units_span, units_dual, length_units}
use Rattle.combinations.proofs.Listed.{listed_tops, listed_span}
use Rattle.combinations.proofs.Reducing.{reduced_of_tops, tops_of_reduced, words_below_lem}
use Rattle.combinations.proofs.Passing.{pass_exactly}
use Rattle.combinations.proofs.Agreeing.{same_exactly}

-- ---- the list that the steps keep is the reduced list

pub kept_list : (m : ℕ) (cs : List ℕ) → reduced_list m cs ≡ steps cs (units m)
kept_list m cs =
    tops_unique m (listed_tops m cs) (tops_steps m cs (units_tops m))
    (λ y.
    iff_eq _ _
    (λ (h : is_xor_of (reduced_list m cs) y ≡ true).
    let l : y < 2 ^ m = span_below m (listed_tops m cs) y h in
    steps_span cs (units m) y ∙ and_intro _ _ (units_span m y l) (sym (listed_span m cs y l) ∙ h))
    (λ (h : is_xor_of (steps cs (units m)) y ≡ true).
    let l : y < 2 ^ m = span_below m (tops_steps m cs (units_tops m)) y h in
    listed_span m cs y l ∙ and_right (is_xor_of (units m) y) _ (sym (steps_span cs (units m) y) ∙ h)))

-- the columns of one portion, then those of another
pub portion_after : (m : ℕ) (cs ds : List ℕ) → reduced_list m (cs ++ ds) ≡ steps ds (reduced_list m cs)
portion_after m cs ds = kept_list m (cs ++ ds) ∙ steps_append cs ds (units m) ∙ ap (steps ds) (sym (kept_list m cs))

pub step_reduced : (m : ℕ) (cs : List ℕ) (c : ℕ) → reduced_list m (cs ++ c ∷ []) ≡ step c (reduced_list m cs)
unfolding steps
step_reduced m cs c = portion_after m cs (c ∷ [])

-- ---- 1 and 2: the list, and the X-free combinations

pub reduced_list_reduced : (m : ℕ) (cs : List ℕ) → m ≤ 64 → is_reduced m (reduced_list m cs) ≡ true
reduced_list_reduced m cs h = reduced_of_tops m (reduced_list m cs) h (listed_tops m cs)

pub x_free_listed : (m : ℕ) (cs : List ℕ) (w : ℕ) → w < 2 ^ m → x_free cs w ≡ is_xor_of (reduced_list m cs) w
x_free_listed m cs w h = sym (listed_span m cs w h)

pub reduced_list_only : (m : ℕ) (cs ws : List ℕ) → m ≤ 64 → is_reduced m ws ≡ true
    → ((w : ℕ) → w < 2 ^ m → is_xor_of ws w ≡ x_free cs w) → ws ≡ reduced_list m cs
reduced_list_only m cs ws h r same =
    let t : Tops m 0 ws = tops_of_reduced m ws h r in
    tops_unique m t (listed_tops m cs)
    (λ y.
    iff_eq _ _
    (λ (p : is_xor_of ws y ≡ true).
    let l : y < 2 ^ m = span_below m t y p in
    listed_span m cs y l ∙ sym (same y l) ∙ p)
    (λ (p : is_xor_of (reduced_list m cs) y ≡ true).
    let l : y < 2 ^ m = span_below m (listed_tops m cs) y p in
    same y l ∙ sym (listed_span m cs y l) ∙ p))

-- ---- 3: the XORs of the columns

-- f holds at y, or at the XOR of y with some of the columns
reach : List ℕ → (ℕ → Bool) → ℕ → Bool
reach [] f y = f y
reach (c ∷ cs) f y = reach cs f y || reach cs f (bit_xor c y)

abbrev is_zero : ℕ → Bool
is_zero z = eqb z 0

xor_of_reach : (cs : List ℕ) (y : ℕ) → is_xor_of cs y ≡ reach cs is_zero y
unfolding is_xor_of reach
xor_of_reach [] y = refl
xor_of_reach (c ∷ cs) y = ap₂ ◌||◌ (xor_of_reach cs y) (xor_of_reach cs (bit_xor c y))

or_swap : (a b c d : Bool) → (a || b || (c || d)) ≡ (a || c || (b || d))
or_swap true b c d = refl
or_swap false true true d = refl
or_swap false true false d = refl
or_swap false false true d = refl
or_swap false false false d = refl

reach_shift : (cs : List ℕ) (c : ℕ) (f g : ℕ → Bool) → ((z : ℕ) → g z ≡ (f z || f (bit_xor c z))) → (y : ℕ) → reach cs g y ≡ (reach cs f y || reach cs f (bit_xor c y))
unfolding reach
reach_shift [] c f g e y = e y
reach_shift (d ∷ cs) c f g e y =
    ap₂ ◌||◌ (reach_shift cs c f g e y) (reach_shift cs c f g e (bit_xor d y))
    ∙ or_swap (reach cs f y) (reach cs f (bit_xor c y)) (reach cs f (bit_xor d y)) (reach cs f (bit_xor c (bit_xor d y)))
    ∙ ap (λ (x : ℕ). reach cs f y || reach cs f (bit_xor d y) || (reach cs f (bit_xor c y) || reach cs f x)) (xor_left_comm c d y)

steps_dual : (cs ws : List ℕ) (y : ℕ) → x_free (steps cs ws) y ≡ reach cs (x_free ws) y
unfolding steps reach
steps_dual [] ws y = refl
steps_dual (c ∷ cs) ws y = steps_dual cs (step c ws) y ∙ reach_shift cs c (x_free ws) (x_free (step c ws)) (step_dual c ws) y

pub first_below : (m c : ℕ) (cs : List ℕ) → any_of (beyond m) (c ∷ cs) ≡ false → c < 2 ^ m
unfolding any_of beyond
first_below m c cs h = leb-false (2 ^ m) c (or_false_left (beyond m c) (any_of (beyond m) cs) h)

pub later_below : (m c : ℕ) (cs : List ℕ) → any_of (beyond m) (c ∷ cs) ≡ false → any_of (beyond m) cs ≡ false
unfolding any_of
later_below m c cs h = or_false_right (beyond m c) (any_of (beyond m) cs) h

reach_below : (m : ℕ) (cs : List ℕ) (f g : ℕ → Bool) → any_of (beyond m) cs ≡ false → ((z : ℕ) → z < 2 ^ m → f z ≡ g z) → (y : ℕ) → y < 2 ^ m → reach cs f y ≡ reach cs g y
unfolding reach
reach_below m [] f g b e y h = e y h
reach_below m (c ∷ cs) f g b e y h =
    ap₂ ◌||◌ (reach_below m cs f g (later_below m c cs b) e y h)
    (reach_below m cs f g (later_below m c cs b) e (bit_xor c y) (xor_lt m c y (first_below m c cs b) h))

units_zero : (m y : ℕ) → y < 2 ^ m → x_free (units m) y ≡ eqb y 0
units_zero m y h =
    iff_eq _ _ (λ (p : x_free (units m) y ≡ true). eq-eqb y 0 (units_dual m y h p))
    (λ (p : eqb y 0 ≡ true). ap (x_free (units m)) (eqb-true y 0 p) ∙ x_free_zero (units m))

pub explained_listed : (m : ℕ) (cs : List ℕ) → any_of (beyond m) cs ≡ false → (y : ℕ) → y < 2 ^ m → is_xor_of cs y ≡ x_free (reduced_list m cs) y
explained_listed m cs b y h =
    xor_of_reach cs y ∙ sym (reach_below m cs (x_free (units m)) is_zero b (units_zero m) y h) ∙ sym (steps_dual cs (units m) y)
    ∙ ap (λ (l : List ℕ). x_free l y) (sym (kept_list m cs))

-- ---- 4: the rank

member_map : (c : ℕ) (s : List ℕ) (y : ℕ) → member y (map (bit_xor c) s) ≡ member (bit_xor c y) s
unfolding any_of
member_map c [] y = refl
member_map c (x ∷ s) y =
    ap₂ ◌||◌
    (iff_eq _ _
    (λ (h : eqb y (bit_xor c x) ≡ true). eq-eqb _ _ (ap (bit_xor c) (eqb-true y (bit_xor c x) h) ∙ xor_cancel c x))
    (λ (h : eqb (bit_xor c y) x ≡ true). eq-eqb _ _ (sym (xor_cancel c y) ∙ ap (bit_xor c) (eqb-true (bit_xor c y) x h))))
    (member_map c s y)

grown_same : (s : List ℕ) (c : ℕ) → member c s ≡ true → grown s c ≡ s
unfolding grown
grown_same s c h = rw h

grown_more : (s : List ℕ) (c : ℕ) → member c s ≡ false → grown s c ≡ s ++ map (bit_xor c) s
unfolding grown
grown_more s c h = rw h

rank_next : (m c : ℕ) (cs ws s : List ℕ) (b : Bool) → member c s ≡ b → x_free ws c ≡ b
    → ((y : ℕ) → y < 2 ^ m → member y s ≡ x_free ws y) → c < 2 ^ m
    → (((y : ℕ) → y < 2 ^ m → member y (grown s c) ≡ x_free (step c ws) y) → length (steps cs (step c ws)) + rank_after (grown s c) cs ≡ length (step c ws))
    → length (steps cs (step c ws)) + (cond (member c s) 0 1 + rank_after (grown s c) cs) ≡ length ws
rank_next m c cs ws s true ms xw same l ih =
    let unchanged : grown s c ≡ s = grown_same s c ms in
    let kept : step c ws ≡ ws = step_same c ws xw in
    let next = ih (λ y h. ap (member y) unchanged ∙ same y h ∙ ap (λ (v : List ℕ). x_free v y) (sym kept)) in
    let none_more : ◌≡◌ {A = ℕ} (cond (member c s) 0 1) 0 = ap (λ (b : Bool). cond {A = ℕ} b 0 1) ms in
    let long : length (step c ws) ≡ length ws = ap length kept in
    omega arith
rank_next m c cs ws s false ms xw same l ih =
    let more : grown s c ≡ s ++ map (bit_xor c) s = grown_more s c ms in
    let next =
    ih (λ y h.
    ap (member y) more ∙ any_of_append (eqb y) s (map (bit_xor c) s)
    ∙ ap₂ ◌||◌ (same y h) (member_map c s y ∙ same (bit_xor c y) (xor_lt m c y l h)) ∙ sym (step_dual c ws y))
    in
    let one_more : ◌≡◌ {A = ℕ} (cond (member c s) 0 1) 1 = ap (λ (b : Bool). cond {A = ℕ} b 0 1) ms in
    let fewer : suc (length (step c ws)) ≡ length ws = step_less c ws xw in
    omega arith

rank_after_lem : (m : ℕ) (cs ws s : List ℕ) → any_of (beyond m) cs ≡ false → ((y : ℕ) → y < 2 ^ m → member y s ≡ x_free ws y)
    → length (steps cs ws) + rank_after s cs ≡ length ws
unfolding steps rank_after
rank_after_lem m [] ws s b same = add-zero (length ws)
rank_after_lem m (c ∷ cs) ws s b same =
    rank_next m c cs ws s (member c s) refl (sym (same c (first_below m c cs b))) same (first_below m c cs b)
    (rank_after_lem m cs (step c ws) (grown s c) (later_below m c cs b))

no_other : (w : ℕ) → (not (eqb w 0) && is_xor_of [] w) ≡ false
unfolding is_xor_of
no_other w = not-and_self (eqb w 0)

only_zero : (y : ℕ) → member y (0 ∷ []) ≡ eqb y 0
unfolding any_of
only_zero y = or-false (eqb y 0)

pub words_and_rank : (m : ℕ) (cs : List ℕ) → any_of (beyond m) cs ≡ false → length (reduced_list m cs) + rank cs ≡ m
unfolding rank
words_and_rank m cs b =
    ap (λ (l : List ℕ). length l + rank_after (0 ∷ []) cs) (kept_list m cs)
    ∙ rank_after_lem m cs (units m) (0 ∷ []) b (λ y h. only_zero y ∙ sym (units_zero m y h)) ∙ length_units m

-- ---- 17

listed_first : (m : ℕ) (w : ℕ) (ws : List ℕ) {k : ℕ} → Tops m k (w ∷ ws) → (w ≡ 0 → ⊥)
listed_first m w ws (tops_cons i ki im t r rest) = top_positive i w t

empty_case : (m : ℕ) (cs ws : List ℕ) → reduced_list m cs ≡ ws → Tops m 0 ws → only_empty m cs ≡ eqb (length ws) 0
unfolding only_empty
empty_case m cs [] e t =
    ap not
    (any_below_none (2 ^ m) _
    (λ w h.
    ap (λ (b : Bool). not (eqb w 0) && b) (x_free_listed m cs w h ∙ ap (λ (l : List ℕ). is_xor_of l w) e)
    ∙ no_other w))
empty_case m cs (v ∷ ws) e t =
    let in_list : is_xor_of (v ∷ ws) v ≡ true = xor_of_head v ws in
    let low : v < 2 ^ m = span_below m t v in_list in
    let free : x_free cs v ≡ true = x_free_listed m cs v low ∙ ap (λ (l : List ℕ). is_xor_of l v) e ∙ in_list in
    ap not
    (any_below_true (2 ^ m) _ v low (and_intro _ _ (ap not (ne_eqb v 0 (listed_first m v ws t))) free))
    ∙ sym (eqb-suc-zero (length ws))

pub only_empty_list : (m : ℕ) (cs : List ℕ) → only_empty m cs ≡ eqb (length (reduced_list m cs)) 0
only_empty_list m cs = empty_case m cs (reduced_list m cs) refl (listed_tops m cs)

no_words_lem : (ws : List ℕ) → eqb (length ws) 0 ≡ true → ws ≡ []
no_words_lem [] h = refl
no_words_lem (w ∷ ws) h = let z : suc (length ws) ≡ 0 = eqb-true (suc (length ws)) 0 h in let no : ⊥ = omega arith in absurd no

pub only_empty_explains : (m : ℕ) (cs : List ℕ) → any_of (beyond m) cs ≡ false → only_empty m cs ≡ true → (y : ℕ) → y < 2 ^ m → is_xor_of cs y ≡ true
unfolding x_free
only_empty_explains m cs b h y l =
    explained_listed m cs b y l
    ∙ ap (λ (ws : List ℕ). x_free ws y) (no_words_lem (reduced_list m cs) (sym (only_empty_list m cs) ∙ h))

-- a listed word is odd with some word below 2 ^ m
odd_with : (m : ℕ) (ws : List ℕ) {k : ℕ} → Tops m k ws → ((y : ℕ) → y < 2 ^ m → x_free ws y ≡ true) → ws ≡ []
odd_with m [] t f = refl
odd_with m (w ∷ ws) (tops_cons i ki im t r rest) f =
    let even : parity (2 ^ i) w ≡ 0 = x_free_head w ws (2 ^ i) (f (2 ^ i) (pow-lt im)) in
    let one : digit i w ≡ 1 = top_digit i w t in
    let zero_digit : digit i w ≡ 0 = sym (parity_pow i w) ∙ even in
    let no : ⊥ = omega arith in
    absurd no

pub explains_only_empty : (m : ℕ) (cs : List ℕ) → any_of (beyond m) cs ≡ false → ((y : ℕ) → y < 2 ^ m → is_xor_of cs y ≡ true) → only_empty m cs ≡ true
explains_only_empty m cs b f =
    only_empty_list m cs
    ∙ ap (λ (ws : List ℕ). eqb (length ws) 0)
    (odd_with m (reduced_list m cs) (listed_tops m cs) (λ y h. sym (explained_listed m cs b y h) ∙ f y h))

-- ---- any reduced list

pub reduced_below : (m : ℕ) (ws : List ℕ) → is_reduced m ws ≡ true → (i : ℕ) → get_or ws i 0 < 2 ^ m
reduced_below = words_below_lem

pub reduced_exactly : (m : ℕ) (ws : List ℕ) → ((i : ℕ) → get_or ws i 0 < 2 ^ 64) → is_reduced m ws ≡ one_pass m 0 0 ws
reduced_exactly = pass_exactly

-- what is left of one pass over the words decides: `last` is the word before place i, `seen` has the highest bits of those before it
pub Passed : ℕ → List ℕ → ℕ → ℕ → ℕ → Type 0
Passed m ws last seen i = one_pass m 0 0 ws ≡ one_pass m last seen (drop i ws)

module _ (m : ℕ) (ws : List ℕ) where
  pub passed_start : Passed m ws 0 0 0
  unfolding Passed
  passed_start = refl

  pass_next : (last seen i : ℕ) → i < length ws
      → one_pass m last seen (drop i ws) ≡ (follows m last seen (get_or ws i 0) && one_pass m (get_or ws i 0) (with_top seen (get_or ws i 0)) (drop (i + 1) ws))
  unfolding one_pass
  pass_next last seen i h =
      ap (one_pass m last seen) (drop-cons ws i 0 h)
      ∙ ap (λ (n : ℕ). follows m last seen (get_or ws i 0) && one_pass m (get_or ws i 0) (with_top seen (get_or ws i 0)) (drop n ws)) (sym (add-one i))

  pub passed_turn : (last seen seen' i : ℕ) (b : Bool) → Passed m ws last seen i → i < length ws
      → b ≡ follows m last seen (get_or ws i 0) → not b ≡ false → seen' ≡ with_top seen (get_or ws i 0) → Passed m ws (get_or ws i 0) seen' (i + 1)
  unfolding Passed
  passed_turn last seen seen' i b p h e n t =
      let go_on : follows m last seen (get_or ws i 0) ≡ true = sym e ∙ not-false b n in
      p ∙ pass_next last seen i h ∙ ap₂ (λ (x : Bool) (y : ℕ). x && one_pass m (get_or ws i 0) y (drop (i + 1) ws)) go_on (sym t)

  module _ (small : (i : ℕ) → get_or ws i 0 < 2 ^ 64) where
    pub passed_stop : (last seen i : ℕ) (b : Bool) → Passed m ws last seen i → i < length ws
        → b ≡ follows m last seen (get_or ws i 0) → not b ≡ true → false ≡ is_reduced m ws
    unfolding Passed
    passed_stop last seen i b p h e n =
        let stop : follows m last seen (get_or ws i 0) ≡ false = sym e ∙ not-true b n in
        sym
        (reduced_exactly m ws small ∙ p ∙ pass_next last seen i h
        ∙ ap (λ (x : Bool). x && one_pass m (get_or ws i 0) (with_top seen (get_or ws i 0)) (drop (i + 1) ws)) stop)

    pub passed_end : (last seen i : ℕ) → Passed m ws last seen i → length ws ≤ i → true ≡ is_reduced m ws
    unfolding Passed one_pass
    passed_end last seen i p h = sym (reduced_exactly m ws small ∙ p ∙ ap (one_pass m last seen) (drop_of_length-le ws h))

-- ---- parities

pub same_parities : (ws : List ℕ) (y z : ℕ) → x_free ws (bit_xor y z) ≡ eqb (parities ws y) (parities ws z)
same_parities = same_exactly
