-- Lists of words by their highest bits: each word's highest bit lies above that of the word before it and is clear in every
-- later word. Such a list is found again from its XORs alone. Assumes nothing.
use mathlib.Core.Path.{◌≡◌, refl, sym, ap, ap₂, ◌∙◌, subst}
use mathlib.Core.Bool.{true}
use mathlib.Core.Logic.{⊎_elim}
use mathlib.Core.List.{List, [], ◌∷◌, ◌++◌}
use Prim.Native.Nat.{ℕ, suc, ◌+◌, ◌*◌, ◌/◌, ◌%◌, ◌^◌, ◌<◌, ◌≤◌}
use native.Mathlib.Nat.{div-eq_of_lt, zero-div, mod-lt, le_trans, le_refl, le_step, lt_of_lt_of_le, lt_of_not-le, le_antisymm}
use native.Mathlib.Decide.{dec_le}
use native.Mathlib.Omega.{arith}
use lib.Pow.{pow_pos, pow_mono, split}
use lib.Bits.{bit_xor, xor_shr, xor_lt}
use Rattle.word.specs.Word.{parity, digit}
use Rattle.word.proofs.Laws.{xor_cancel, xor_zero_eq, digit_xor, mod2_lt, parity_cases}
use Rattle.word.specs.Span.{is_xor_of}
use Rattle.combinations.specs.Step.{cleared, step, steps}
use Rattle.word.proofs.SpanLaws.{xor_of_nil, xor_of_cases, xor_of_head, xor_of_tail}
use Rattle.word.proofs.BoolLaws.{iff_eq}
use Rattle.combinations.proofs.StepLaws.{step_even, step_odd, cleared_even, cleared_odd}

-- bit i is clear in every word of the list
pub data ClearIn (i : ℕ) : List ℕ → Type 0 where
  clear_nil : ClearIn i []
  clear_cons : {w : ℕ} {ws : List ℕ} → digit i w ≡ 0 → ClearIn i ws → ClearIn i (w ∷ ws)

-- highest bits from k on and below m, ascending, each clear in every later word
pub data Tops (m : ℕ) : ℕ → List ℕ → Type 0 where
  tops_nil : {k : ℕ} → Tops m k []
  tops_cons : {k w : ℕ} {ws : List ℕ} (i : ℕ) → k ≤ i → i < m → w / 2 ^ i ≡ 1 → ClearIn i ws → Tops m (suc i) ws → Tops m k (w ∷ ws)

-- ---- numbers

pub below_shr : (k w : ℕ) → w < 2 ^ k → w / 2 ^ k ≡ 0
below_shr k w h = div-eq_of_lt h

pub shr_below : (k w : ℕ) → w / 2 ^ k ≡ 0 → w < 2 ^ k
shr_below k w h = omega (arith, split w k, mod-lt w (pow_pos k), ap (λ (x : ℕ). x * 2 ^ k) h)

-- a number with no digit from k on has none from i on
pub shr_zero_mono : (k i w : ℕ) → k ≤ i → w / 2 ^ k ≡ 0 → w / 2 ^ i ≡ 0
shr_zero_mono k i w l h = below_shr i w (lt_of_lt_of_le (shr_below k w h) (pow_mono l))

-- a number with highest digit i is below 2 ^ (i + 1)
pub top_below : (i w : ℕ) → w / 2 ^ i ≡ 1 → w < 2 ^ suc i
top_below i w h = omega (arith, split w i, mod-lt w (pow_pos i), ap (λ (x : ℕ). x * 2 ^ i) h)

pub top_least : (i w : ℕ) → w / 2 ^ i ≡ 1 → 2 ^ i ≤ w
top_least i w t = omega (arith, split w i, ap (λ (x : ℕ). x * 2 ^ i) t)

pub top_digit : (i w : ℕ) → w / 2 ^ i ≡ 1 → digit i w ≡ 1
top_digit i w h = ap (λ (x : ℕ). x % 2) h

pub top_positive : (i w : ℕ) → w / 2 ^ i ≡ 1 → w ≡ 0 → ⊥
top_positive i w h z =
    let no : w / 2 ^ i ≡ 0 = ap (λ (x : ℕ). x / 2 ^ i) z ∙ zero-div (2 ^ i) in
    omega arith

zero_one : (d : ℕ) → d ≡ 0 → d ≡ 1 → ⊥
zero_one d a b = omega arith

odd_one : (d e : ℕ) → d ≡ 1 → e ≡ 0 → (d + e) % 2 ≡ 0 → ⊥
odd_one d e hd he hs = omega arith

-- ---- the XORs of such a list

pub span_clear : (i : ℕ) {ws : List ℕ} → ClearIn i ws → (y : ℕ) → is_xor_of ws y ≡ true → digit i y ≡ 0
span_clear i clear_nil y h = ap (digit i) (xor_of_nil y h) ∙ ap (λ (x : ℕ). x % 2) (zero-div (2 ^ i))
span_clear i (clear_cons {w = w} {ws = ws} d r) y h =
    ⊎_elim (λ (p : is_xor_of ws y ≡ true). span_clear i r y p)
    (λ (p : is_xor_of ws (bit_xor w y) ≡ true).
    let z : (digit i w + digit i y) % 2 ≡ 0 = sym (digit_xor i w y) ∙ span_clear i r (bit_xor w y) p in
    let b : digit i y < 2 = mod2_lt (y / 2 ^ i) in
    second (digit i w) (digit i y) d z b) (xor_of_cases w ws y h)
  where
    second : (d e : ℕ) → d ≡ 0 → (d + e) % 2 ≡ 0 → e < 2 → e ≡ 0
    second d e hd hs he = omega arith

-- an XOR of the words that has no digit from k on is 0
pub span_low : (m : ℕ) {k : ℕ} {ws : List ℕ} → Tops m k ws → (y : ℕ) → is_xor_of ws y ≡ true → y / 2 ^ k ≡ 0 → y ≡ 0
span_low m tops_nil y h l = xor_of_nil y h
span_low m (tops_cons {k = k} {w = w} {ws = ws} i ki im t r rest) y h l =
    ⊎_elim (λ (p : is_xor_of ws y ≡ true). span_low m rest y p (shr_zero_mono k (suc i) y (le_step ki) l))
    (λ (p : is_xor_of ws (bit_xor w y) ≡ true).
    let z : (digit i w + digit i y) % 2 ≡ 0 = sym (digit_xor i w y) ∙ span_clear i r (bit_xor w y) p in
    let a : digit i w ≡ 1 = top_digit i w t in
    let b : digit i y ≡ 0 = ap (λ (x : ℕ). x % 2) (shr_zero_mono k i y ki l) in
    absurd (odd_one (digit i w) (digit i y) a b z)) (xor_of_cases w ws y h)

pub span_below : (m : ℕ) {k : ℕ} {ws : List ℕ} → Tops m k ws → (y : ℕ) → is_xor_of ws y ≡ true → y < 2 ^ m
span_below m tops_nil y h = let z : y ≡ 0 = xor_of_nil y h in omega (arith, pow_pos m)
span_below m (tops_cons {w = w} {ws = ws} i ki im t r rest) y h =
    ⊎_elim (λ (p : is_xor_of ws y ≡ true). span_below m rest y p)
    (λ (p : is_xor_of ws (bit_xor w y) ≡ true).
    rw (xor_cancel w y) at (xor_lt m w (bit_xor w y) (lt_of_lt_of_le (top_below i w t) (pow_mono im)) (span_below m rest (bit_xor w y) p)))
    (xor_of_cases w ws y h)

-- ---- two such lists with the same XORs are the same list

-- no XOR of the words has a highest bit below the first word's
top_from : (m i j w v : ℕ) (vs : List ℕ) → w / 2 ^ i ≡ 1 → v / 2 ^ j ≡ 1 → j < m → ClearIn j vs → Tops m (suc j) vs → is_xor_of (v ∷ vs) w ≡ true → j ≤ i
top_from m i j w v vs tw tv jm r rest h =
    elim (dec_le j i) [
      | yes l ↦ l
      | no n ↦
          let l : i < j = lt_of_not-le n in
          let high : w / 2 ^ j ≡ 0 = below_shr j w (lt_of_lt_of_le (top_below i w tw) (pow_mono l)) in
          absurd (top_positive i w tw (span_low m (tops_cons {k = j} j (le_refl j) jm tv r rest) w h high))
    ]

-- a word with the first word's highest bit is the first word
same_head : (m i w v : ℕ) (vs : List ℕ) → w / 2 ^ i ≡ 1 → v / 2 ^ i ≡ 1 → ClearIn i vs → Tops m (suc i) vs → is_xor_of (v ∷ vs) w ≡ true → w ≡ v
same_head m i w v vs tw tv r rest h =
    ⊎_elim
    (λ (p : is_xor_of vs w ≡ true).
    let z : digit i w ≡ 0 = span_clear i r w p in
    let o : digit i w ≡ 1 = top_digit i w tw in
    absurd (zero_one (digit i w) z o))
    (λ (p : is_xor_of vs (bit_xor v w) ≡ true).
    sym (xor_zero_eq v w (span_low m rest (bit_xor v w) p (below_shr (suc i) (bit_xor v w) (xor_lt (suc i) v w (top_below i v tv) (top_below i w tw))))))
    (xor_of_cases v vs w h)

-- what the later words of the one make, the later words of the other make
same_tail : (i w v : ℕ) (ws vs : List ℕ) → v / 2 ^ i ≡ 1 → ClearIn i ws → ClearIn i vs
    → ((y : ℕ) → is_xor_of (w ∷ ws) y ≡ is_xor_of (v ∷ vs) y) → (y : ℕ) → is_xor_of ws y ≡ true → is_xor_of vs y ≡ true
same_tail i w v ws vs tv rw-clear rv-clear same y h =
    ⊎_elim (λ (p : is_xor_of vs y ≡ true). p)
    (λ (p : is_xor_of vs (bit_xor v y) ≡ true).
    let z : (digit i v + digit i y) % 2 ≡ 0 = sym (digit_xor i v y) ∙ span_clear i rv-clear (bit_xor v y) p in
    absurd (odd_one (digit i v) (digit i y) (top_digit i v tv) (span_clear i rw-clear y h) z))
    (xor_of_cases v vs y (sym (same y) ∙ xor_of_tail w ws y h))

pub tops_unique : (m : ℕ) {k l : ℕ} {ws vs : List ℕ} → Tops m k ws → Tops m l vs → ((y : ℕ) → is_xor_of ws y ≡ is_xor_of vs y) → ws ≡ vs
tops_unique m tops_nil tops_nil same = refl
tops_unique m tops_nil (tops_cons {w = v} {ws = vs} j lj jm tv rv rest) same =
    absurd (top_positive j v tv (xor_of_nil v (same v ∙ xor_of_head v vs)))
tops_unique m (tops_cons {w = w} {ws = ws} i ki im tw r rest) tops_nil same =
    absurd (top_positive i w tw (xor_of_nil w (sym (same w) ∙ xor_of_head w ws)))
tops_unique m (tops_cons {w = w} {ws = ws} i ki im tw r rest) (tops_cons {w = v} {ws = vs} j lj jm tv rv restv) same =
    let w_in : is_xor_of (v ∷ vs) w ≡ true = sym (same w) ∙ xor_of_head w ws in
    let v_in : is_xor_of (w ∷ ws) v ≡ true = same v ∙ xor_of_head v vs in
    let e : j ≡ i = le_antisymm (top_from m i j w v vs tw tv jm rv restv w_in) (top_from m j i v w ws tv tw im r rest v_in) in
    let tv' : v / 2 ^ i ≡ 1 = subst (λ (n : ℕ). v / 2 ^ n ≡ 1) e tv in
    let rv' : ClearIn i vs = subst (λ (n : ℕ). ClearIn n vs) e rv in
    let restv' : Tops m (suc i) vs = subst (λ (n : ℕ). Tops m (suc n) vs) e restv in
    ap₂ ◌∷◌ (same_head m i w v vs tw tv' rv' restv' w_in)
    (tops_unique m rest restv
    (λ y.
    iff_eq _ _ (same_tail i w v ws vs tv' r rv' same y)
    (same_tail i v w vs ws tw rv' r (λ z. sym (same z)) y)))

-- ---- a step keeps the highest bits

pub clear_cleared : (i c p : ℕ) {ws : List ℕ} → digit i p ≡ 0 → ClearIn i ws → ClearIn i (cleared c p ws)
unfolding cleared
clear_cleared i c p h clear_nil = clear_nil
clear_cleared i c p h (clear_cons {w = w} {ws = ws} d r) =
    ⊎_elim
    (λ (e : parity w c ≡ 0). subst (ClearIn i) (sym (cleared_even c p w ws e)) (clear_cons d (clear_cleared i c p h r)))
    (λ (e : parity w c ≡ 1).
    subst (ClearIn i) (sym (cleared_odd c p w ws e))
    (clear_cons (digit_xor i w p ∙ ap₂ (λ (x y : ℕ). (x + y) % 2) d h) (clear_cleared i c p h r)))
    (parity_cases w c)

pub clear_step : (i c : ℕ) {ws : List ℕ} → ClearIn i ws → ClearIn i (step c ws)
unfolding step
clear_step i c clear_nil = clear_nil
clear_step i c (clear_cons {w = w} {ws = ws} d r) =
    ⊎_elim (λ (e : parity w c ≡ 0). subst (ClearIn i) (sym (step_even c w ws e)) (clear_cons d (clear_step i c r)))
    (λ (e : parity w c ≡ 1). subst (ClearIn i) (sym (step_odd c w ws e)) (clear_cleared i c w d r)) (parity_cases w c)

top_xor : (i w p : ℕ) → w / 2 ^ i ≡ 1 → p / 2 ^ i ≡ 0 → bit_xor w p / 2 ^ i ≡ 1
top_xor i w p tw h = xor_shr w p i ∙ ap₂ bit_xor tw h

pub tops_cleared : (m c p : ℕ) {k : ℕ} {ws : List ℕ} → p / 2 ^ k ≡ 0 → Tops m k ws → Tops m k (cleared c p ws)
unfolding cleared
tops_cleared m c p h tops_nil = tops_nil
tops_cleared m c p h (tops_cons {k = k} {w = w} {ws = ws} i ki im t r rest) =
    let hi : p / 2 ^ i ≡ 0 = shr_zero_mono k i p ki h in
    let clear : ClearIn i (cleared c p ws) = clear_cleared i c p (ap (λ (x : ℕ). x % 2) hi) r in
    let later : Tops m (suc i) (cleared c p ws) = tops_cleared m c p (shr_zero_mono k (suc i) p (le_step ki) h) rest in
    ⊎_elim
    (λ (e : parity w c ≡ 0). subst (Tops m k) (sym (cleared_even c p w ws e)) (tops_cons i ki im t clear later))
    (λ (e : parity w c ≡ 1).
    subst (Tops m k) (sym (cleared_odd c p w ws e)) (tops_cons i ki im (top_xor i w p t hi) clear later))
    (parity_cases w c)

pub tops_from : (m : ℕ) {k l : ℕ} {ws : List ℕ} → k ≤ l → Tops m l ws → Tops m k ws
tops_from m h tops_nil = tops_nil
tops_from m h (tops_cons i li im t r rest) = tops_cons i (le_trans h li) im t r rest

pub tops_step : (m c : ℕ) {k : ℕ} {ws : List ℕ} → Tops m k ws → Tops m k (step c ws)
unfolding step
tops_step m c tops_nil = tops_nil
tops_step m c (tops_cons {k = k} {w = w} {ws = ws} i ki im t r rest) =
    ⊎_elim
    (λ (e : parity w c ≡ 0).
    subst (Tops m k) (sym (step_even c w ws e)) (tops_cons i ki im t (clear_step i c r) (tops_step m c rest)))
    (λ (e : parity w c ≡ 1).
    subst (Tops m k) (sym (step_odd c w ws e))
    (tops_from m (le_step ki) (tops_cleared m c w (below_shr (suc i) w (top_below i w t)) rest)))
    (parity_cases w c)

pub tops_steps : (m : ℕ) (cs : List ℕ) {k : ℕ} {ws : List ℕ} → Tops m k ws → Tops m k (steps cs ws)
unfolding steps
tops_steps m [] t = t
tops_steps m (c ∷ cs) t = tops_steps m cs (tops_step m c t)

-- ---- one word more at the end

pub data IsTop (i : ℕ) : List ℕ → Type 0 where
  top_here : {w : ℕ} {ws : List ℕ} → w / 2 ^ i ≡ 1 → IsTop i (w ∷ ws)
  top_later : {w : ℕ} {ws : List ℕ} → IsTop i ws → IsTop i (w ∷ ws)

pub clear_append : (i : ℕ) {ws vs : List ℕ} → ClearIn i ws → ClearIn i vs → ClearIn i (ws ++ vs)
clear_append i clear_nil r = r
clear_append i (clear_cons d q) r = clear_cons d (clear_append i q r)

pub tops_snoc : (m w : ℕ) {k : ℕ} {ws : List ℕ} → k ≤ m → Tops m k ws → w / 2 ^ m ≡ 1 → ((i : ℕ) → IsTop i ws → digit i w ≡ 0) → Tops (suc m) k (ws ++ w ∷ [])
tops_snoc m w km tops_nil t f = tops_cons m km (le_refl (suc m)) t clear_nil tops_nil
tops_snoc m w km (tops_cons i ki im tv r rest) t f =
    tops_cons i ki (le_step im) tv (clear_append i r (clear_cons (f i (top_here tv)) clear_nil))
    (tops_snoc m w im rest t (λ j h. f j (top_later h)))

pub tops_wider : (m : ℕ) {k : ℕ} {ws : List ℕ} → Tops m k ws → Tops (suc m) k ws
tops_wider m tops_nil = tops_nil
tops_wider m (tops_cons i ki im t r rest) = tops_cons i ki (le_step im) t r (tops_wider m rest)

-- a number has one highest bit
pub one_top : (i j w : ℕ) → w / 2 ^ i ≡ 1 → w / 2 ^ j ≡ 1 → i ≡ j
one_top i j w ti tj = le_antisymm (not_above i j w ti tj) (not_above j i w tj ti)
  where
    not_above : (i j w : ℕ) → w / 2 ^ i ≡ 1 → w / 2 ^ j ≡ 1 → i ≤ j
    not_above i j w ti tj =
        elim (dec_le i j) [
          | yes l ↦ l
          | no n ↦
              let z : w / 2 ^ i ≡ 0 = below_shr i w (lt_of_lt_of_le (top_below j w tj) (pow_mono (lt_of_not-le n))) in
              absurd (zero_one (w / 2 ^ i) z ti)
        ]

pub top_under : (m i : ℕ) {k : ℕ} {ws : List ℕ} → Tops m k ws → IsTop i ws → i < m
top_under m i (tops_nil {k = k}) x4 = elim x4 [ ]
top_under m i (tops_cons {w = w} j kj jm t r rest) (top_here h) = subst (λ (n : ℕ). n < m) (one_top j i w t h) jm
top_under m i (tops_cons j kj jm t r rest) (top_later h) = top_under m i rest h
