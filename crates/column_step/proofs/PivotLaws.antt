-- The first odd word and the step by its place: the start, turn and end of the loops, and each way out of the step. Assumes nothing.
use mathlib.Core.Path.{◌≡◌, refl, sym, ap, ap₂, ◌∙◌, subst}
use mathlib.Core.Logic.{⊎_elim}
use mathlib.Core.List.{List, [], ◌∷◌, ◌++◌, append-nil}
use Prim.Native.Nat.{ℕ, suc, ◌+◌, ◌-◌, ◌<◌, ◌≤◌}
use native.Mathlib.Nat.{le_refl, le_of_eq, le_antisymm, le_of_suc-le-suc, not-suc-le-zero}
use native.Mathlib.Numerals.{add-one}
use native.Mathlib.Omega.{arith}
use lib.ListN.{length, get_or, take, drop, set, length-append, length-drop, length-set, take-append-drop, drop_of_length-le}
use lib.Seq.{drop-cons, take-suc-set, drop-set-lt, drop-drop, get_or-drop, append_snoc, length-take-le}
use lib.Bits.{bit_xor}
use Rattle.std.specs.declared.option.Option.{Option}
use Rattle.std.specs.Option.{MatchOption, unwrap_or}
use Rattle.std.specs.List.{AllWithin, HoldsAt}
use Rattle.std.proofs.lemmas.Iterator.{index_from_first}
use Rattle.word.specs.Word.{parity}
use Rattle.word.specs.Reply.{front}
use Rattle.word.proofs.Laws.{parity_cases}
use Rattle.combinations.specs.Step.{by_parity, cleared, step}
use Rattle.column_step.specs.Pivot.{first_odd}
use Rattle.combinations.proofs.StepLaws.{step_even, step_odd, length_cleared}

-- ---- the first odd word

first_even : (c w : ℕ) (ws : List ℕ) → parity w c ≡ 0 → first_odd c (w ∷ ws) ≡ suc (first_odd c ws)
unfolding first_odd
first_even c w ws e = ap (λ (n : ℕ). by_parity n (suc (first_odd c ws)) 0) e

first_odd_lem : (c w : ℕ) (ws : List ℕ) → parity w c ≡ 1 → first_odd c (w ∷ ws) ≡ 0
unfolding first_odd
first_odd_lem c w ws e = ap (λ (n : ℕ). by_parity n (suc (first_odd c ws)) 0) e

-- the place of the first odd word, where the words are asked one by one
pub first_odd_at : (c : ℕ) (ws : List ℕ) (r : Option ℕ)
    → MatchOption r (AllWithin (λ w. parity w c ≡ 0) ws 0 (length ws)) (λ i. (i < length ws) × HoldsAt (λ w. parity w c ≡ 0 → ⊥) ws i × AllWithin (λ w. parity w c ≡ 0) ws 0 i)
    → unwrap_or r (length ws) ≡ first_odd c ws
unfolding first_odd
first_odd_at c ws r h =
    sym (index_from_first (first_odd c) (λ w. parity w c ≡ 0 → ⊥) (λ w. parity w c ≡ 0) refl hit miss ws r h)
  where
    hit : (w : ℕ) (ws : List ℕ) → (parity w c ≡ 0 → ⊥) → first_odd c (w ∷ ws) ≡ 0
    hit w ws n = ⊎_elim (λ (z : parity w c ≡ 0). absurd (n z)) (λ (o : parity w c ≡ 1). first_odd_lem c w ws o) (parity_cases w c)

    miss : (w : ℕ) (ws : List ℕ) → parity w c ≡ 0 → first_odd c (w ∷ ws) ≡ first_odd c ws + 1
    miss w ws z = first_even c w ws z ∙ sym (add-one (first_odd c ws))

-- ---- the step by the place of its pivot

-- the words before the pivot, and the later ones cleared with it
pub around : ℕ → List ℕ → ℕ → List ℕ
around c l i = take i l ++ cleared c (get_or l i 0) (drop (suc i) l)

pub step_around : (c : ℕ) (l : List ℕ) → first_odd c l < length l → step c l ≡ around c l (first_odd c l)
unfolding around
step_around c [] h = absurd (not-suc-le-zero h)
step_around c (w ∷ ws) h =
    ⊎_elim
    (λ (e : parity w c ≡ 0).
    step_even c w ws e
    ∙ ap (λ (l : List ℕ). w ∷ l) (step_around c ws (le_of_suc-le-suc (subst (λ (n : ℕ). n < suc (length ws)) (first_even c w ws e) h)))
    ∙ ap (around c (w ∷ ws)) (sym (first_even c w ws e)))
    (λ (e : parity w c ≡ 1). step_odd c w ws e ∙ ap (around c (w ∷ ws)) (sym (first_odd_lem c w ws e))) (parity_cases w c)

pub step_none : (c : ℕ) (l : List ℕ) → length l ≤ first_odd c l → step c l ≡ l
unfolding step
step_none c [] h = refl
step_none c (w ∷ ws) h =
    ⊎_elim
    (λ (e : parity w c ≡ 0).
    step_even c w ws e
    ∙ ap (λ (l : List ℕ). w ∷ l) (step_none c ws (le_of_suc-le-suc (subst (λ (n : ℕ). suc (length ws) ≤ n) (first_even c w ws e) h))))
    (λ (e : parity w c ≡ 1). absurd (not-suc-le-zero (subst (λ (n : ℕ). suc (length ws) ≤ n) (first_odd_lem c w ws e) h)))
    (parity_cases w c)

first_odd_le : (c : ℕ) (l : List ℕ) → first_odd c l ≤ length l
unfolding first_odd
first_odd_le c [] = omega arith
first_odd_le c (w ∷ ws) =
    ⊎_elim (λ (e : parity w c ≡ 0). omega (arith, first_even c w ws e, first_odd_le c ws))
    (λ (e : parity w c ≡ 1). omega (arith, first_odd_lem c w ws e)) (parity_cases w c)

-- with a pivot there is one word less
pub step_length : (c : ℕ) (l : List ℕ) → first_odd c l < length l → length (step c l) ≡ length l - 1
unfolding around
step_length c l h =
    ap length (step_around c l h) ∙ length-append (take (first_odd c l) l) _
    ∙ ap₂ ◌+◌ (length-take-le (first_odd c l) l (first_odd_le c l)) (length_cleared c _ (drop (suc (first_odd c l)) l) ∙ length-drop (suc (first_odd c l)) l)
    ∙ omega arith

-- no pivot: nothing is written
pub step_whole : (c : ℕ) (l : List ℕ) → length l ≤ first_odd c l → l ≡ front (step c l) l
unfolding front
step_whole c l h =
    sym (append-nil l) ∙ ap₂ ◌++◌ (sym (step_none c l h)) (sym (drop_of_length-le l (le_of_eq (ap length (sym (step_none c l h))))))

pub step_all : (c : ℕ) (l : List ℕ) → length l ≤ first_odd c l → first_odd c l ≡ length (step c l)
step_all c l h = le_antisymm (first_odd_le c l) h ∙ ap length (sym (step_none c l h))

-- ---- dropping the pivot: done so far, and to do

pub record Dropping (c at : ℕ) (l ws : List ℕ) (i : ℕ) : Type 0 where
  pub from : at ≤ i
  pub inside : i < length l
  pub long : length ws ≡ length l
  pub rest : drop i ws ≡ drop i l
  pub done : take i ws ++ cleared c (get_or l at 0) (drop (suc i) l) ≡ around c l at

pub dropping_start : (c at : ℕ) (l : List ℕ) → at < length l → Dropping c at l l at
unfolding around
dropping_start c at l h = record { from = le_refl at; inside = h; long = refl; rest = refl; done = refl }

next_word : (l ws : List ℕ) (i : ℕ) → drop i ws ≡ drop i l → get_or ws (i + 1) 0 ≡ get_or l (i + 1) 0
next_word l ws i e = sym (get_or-drop i ws 1 0) ∙ ap (λ (x : List ℕ). get_or x 1 0) e ∙ get_or-drop i l 1 0

next_rest : (l ws : List ℕ) (i : ℕ) → drop i ws ≡ drop i l → drop (i + 1) ws ≡ drop (i + 1) l
next_rest l ws i e = sym (drop-drop 1 i ws) ∙ ap (drop 1) e ∙ drop-drop 1 i l

cleared_cons : (c p w : ℕ) (ws : List ℕ) → cleared c p (w ∷ ws) ≡ by_parity (parity w c) w (bit_xor w p) ∷ cleared c p ws
unfolding cleared
cleared_cons c p w ws = refl

pub dropping_turn : (c at : ℕ) (l ws : List ℕ) (i v : ℕ) → Dropping c at l ws i → i + 1 < length ws
    → v ≡ by_parity (parity (get_or ws (i + 1) 0) c) (get_or ws (i + 1) 0) (bit_xor (get_or ws (i + 1) 0) (get_or l at 0))
    → Dropping c at l (set ws i v) (i + 1)
dropping_turn c at l ws i v d h e =
    let inside' : i + 1 < length l = subst (λ (n : ℕ). i + 1 < n) d.long h in
    let below : i < length ws = omega (arith, d.long, d.inside) in
    let p = get_or l at 0 in
    let word : v ≡ by_parity (parity (get_or l (i + 1) 0) c) (get_or l (i + 1) 0) (bit_xor (get_or l (i + 1) 0) p) =
    e ∙ ap (λ (w : ℕ). by_parity (parity w c) w (bit_xor w p)) (next_word l ws i d.rest)
    in
    record {
      from = omega (arith, d.from);
      inside = inside';
      long = length-set ws i v ∙ d.long;
      rest = drop-set-lt (i + 1) ws i v (omega arith) ∙ next_rest l ws i d.rest;
      done =
          ap (λ (n : ℕ). take n (set ws i v) ++ cleared c p (drop (suc (i + 1)) l)) (add-one i)
          ∙ ap (λ (x : List ℕ). x ++ cleared c p (drop (suc (i + 1)) l)) (take-suc-set ws i v below)
          ∙ append_snoc (take i ws) v (cleared c p (drop (suc (i + 1)) l))
          ∙ ap (λ (x : ℕ). take i ws ++ x ∷ cleared c p (drop (suc (i + 1)) l)) word
          ∙ ap (λ (x : List ℕ). take i ws ++ x) (sym (cleared_cons c p (get_or l (i + 1) 0) (drop (suc (i + 1)) l)))
          ∙ ap (λ (x : List ℕ). take i ws ++ cleared c p x) (sym (drop-cons l (i + 1) 0 inside'))
          ∙ ap (λ (n : ℕ). take i ws ++ cleared c p (drop n l)) (add-one i) ∙ d.done;
    }

pub dropping_end : (c at : ℕ) (l ws : List ℕ) (i : ℕ) → Dropping c at l ws i → length ws ≤ i + 1 → at ≡ first_odd c l → ws ≡ front (step c l) l
unfolding front cleared
dropping_end c at l ws i d h e =
    let last : length l ≡ suc i = omega (arith, d.long, d.inside) in
    let pivot : first_odd c l < length l = omega (arith, d.from, d.inside) in
    let none_left : drop (suc i) l ≡ [] = drop_of_length-le l (le_of_eq last) in
    let front_done : take i ws ≡ step c l =
    sym (append-nil (take i ws)) ∙ ap (λ (x : List ℕ). take i ws ++ cleared c (get_or l at 0) x) (sym none_left) ∙ d.done
    ∙ ap (around c l) e ∙ sym (step_around c l pivot)
    in
    let count : length (step c l) ≡ i = step_length c l pivot ∙ omega arith in
    sym (take-append-drop i ws) ∙ ap₂ ◌++◌ front_done (d.rest ∙ ap (λ (n : ℕ). drop n l) (sym count))

-- ---- one word cleared

pub clear_even : (w c p r : ℕ) → r ≡ parity w c → r ≡ 0 → w ≡ by_parity (parity w c) w (bit_xor w p)
clear_even w c p r e z = ap (λ (n : ℕ). by_parity n w (bit_xor w p)) (sym (sym e ∙ z))

pub clear_odd : (w c p r : ℕ) → r ≡ parity w c → (r ≡ 0 → ⊥) → bit_xor w p ≡ by_parity (parity w c) w (bit_xor w p)
clear_odd w c p r e n =
    ⊎_elim (λ (z : parity w c ≡ 0). absurd (n (e ∙ z)))
    (λ (o : parity w c ≡ 1). ap (λ (n : ℕ). by_parity n w (bit_xor w p)) (sym o)) (parity_cases w c)

-- ---- one column more

pub added_none : (c : ℕ) (l : List ℕ) (at : ℕ) → at ≡ first_odd c l → length l ≤ at → (at ≡ length (step c l)) × (l ≡ front (step c l) l)
added_none c l at e h =
    let none_odd : length l ≤ first_odd c l = subst (λ (n : ℕ). length l ≤ n) e h in
    (e ∙ step_all c l none_odd, step_whole c l none_odd)

pub added_one : (c : ℕ) (l ws : List ℕ) (at : ℕ) → at ≡ first_odd c l → at < length l → length ws ≡ length l
    → (at < length l → at ≡ first_odd c l → ws ≡ front (step c l) l)
    → (length ws - 1 ≡ length (step c l)) × (ws ≡ front (step c l) l)
added_one c l ws at e h long f =
    (ap (λ (n : ℕ). n - 1) long ∙ sym (step_length c l (subst (λ (n : ℕ). n < length l) e h)), f h e)
