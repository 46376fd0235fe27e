-- A column reduced by the basis, and taken into it. Assumes nothing.
use mathlib.Core.Path.{◌≡◌, refl, sym, ap, ap₂, ◌∙◌, subst}
use mathlib.Core.Logic.{◌⊎◌, ⊎_elim, dite}
use mathlib.Core.List.{List}
use Prim.Native.Nat.{ℕ, suc, ◌+◌, ◌-◌, ◌*◌, ◌/◌, ◌%◌, ◌^◌, ◌<◌, min}
use native.Mathlib.Nat.{zero-mul, one-mul}
use native.Mathlib.Decide.{dec_lt, ℕ_discrete}
use native.Mathlib.Omega.{arith}
use lib.Bits.{bit_xor, bit_and, xor_zero_r, xor_self, and_lt}
use lib.Count.{ones, count_trailing_zeros}
use lib.Pow.{pow-lt}
use lib.ListN.{length, get_or, set, length-set}
use lib.Seq.{get_or-set_same, get_or-set_other}
use Rattle.word.specs.Word.{digit, parity}
use Rattle.word.specs.Parities.{parities}
use Rattle.word.proofs.Laws.{bit_cases, mod2_lt, parity_cases, parity_zero, parity_pow, digit_xor, parities_lt, parities_digit, parities_xor}
use Rattle.word.proofs.LowestLaws.{Lowest, trailing_lowest, below_lowest}
use Rattle.combinations.specs.Step.{cleared, step}
use Rattle.combinations.proofs.StepLaws.{length_cleared}
use Rattle.combinations.proofs.Units.{power_top}
use Rattle.column_basis.specs.Basis.{Basis, Slots}
use Rattle.turned_words.proofs.KeptLaws.{kept_same, step_kept}
use Rattle.column_basis.proofs.BitLaws.{by_digits, digit_and, digit_none}
use Rattle.turned_words.proofs.TurnedLaws.{plus_none, power_other, slots_after, slot_chosen, small_after, gone_after}

-- ---- parities with a word by the bits that count

parity_agree : (a b y : ℕ) → bit_and a y ≡ bit_and b y → parity a y ≡ parity b y
unfolding parity
parity_agree a b y e = ap (λ (x : ℕ). ones x % 2) e

pub parity_by_digits : (a b y : ℕ) → a < 2 ^ 64 → b < 2 ^ 64 → y < 2 ^ 64 → ((j : ℕ) → j < 64 → digit j y ≡ 1 → digit j a ≡ digit j b) → parity a y ≡ parity b y
parity_by_digits a b y ha hb hy same =
    parity_agree a b y
    (by_digits 64 (bit_and a y) (bit_and b y) (and_lt 64 a y ha hy) (and_lt 64 b y hb hy)
    (λ j l. digit_and j a y ∙ ⊎_elim (none j) (one j l) (bit_cases (digit j y) (mod2_lt (y / 2 ^ j))) ∙ sym (digit_and j b y)))
  where
    none : (j : ℕ) → digit j y ≡ 0 → min (digit j a) (digit j y) ≡ min (digit j b) (digit j y)
    none j e = omega arith

    one : (j : ℕ) → j < 64 → digit j y ≡ 1 → min (digit j a) (digit j y) ≡ min (digit j b) (digit j y)
    one j l e = ap (λ (x : ℕ). min x (digit j y)) (same j l e)

-- ---- the walk over the dead bits of a column

-- the walk's next lowest dead bit stands higher
pub walk_lowest : (left : ℕ) → (left ≡ 0 → ⊥) → left < 2 ^ 64 → Lowest left (count_trailing_zeros 64 left)
walk_lowest left n h = trailing_lowest left (count_trailing_zeros 64 left) n h refl

pub walk_step : (left y dead : ℕ) → left ≡ bit_and y dead → (left ≡ 0 → ⊥) → y < 2 ^ 64 → dead < 2 ^ 64 → Lowest (bit_and y dead) (count_trailing_zeros 64 left)
walk_step left y dead e n hy hd =
    trailing_lowest (bit_and y dead) (count_trailing_zeros 64 left) (λ (z : bit_and y dead ≡ 0). n (e ∙ z)) (and_lt 64 y dead hy hd) (ap (count_trailing_zeros 64) e)

trailing_none : count_trailing_zeros 64 0 ≡ 64
unfolding count_trailing_zeros
trailing_none = refl

higher : (k left : ℕ) → k < 64 → left < 2 ^ 64 → ((j : ℕ) → j < suc k → digit j left ≡ 0) → k < count_trailing_zeros 64 left
higher k left h l clear = dite (ℕ_discrete left 0) zero_case more
  where
    zero_case : left ≡ 0 → k < count_trailing_zeros 64 left
    zero_case e = omega (arith, ap (count_trailing_zeros 64) e, trailing_none)

    more : (left ≡ 0 → ⊥) → k < count_trailing_zeros 64 left
    more n =
        let t = walk_lowest left n l in
        dite (dec_lt (count_trailing_zeros 64 left) (suc k)) (λ (b : count_trailing_zeros 64 left < suc k). (let z : ⊥ = omega (arith, clear (count_trailing_zeros 64 left) b, t.one) in absurd z))
        (λ (b : count_trailing_zeros 64 left < suc k → ⊥). omega arith)

module _ (basis : List ℕ) (dead : ℕ) (b : Basis basis dead) where
  -- bit k is the lowest dead bit of y
  module _ (y k : ℕ) (t : Lowest (bit_and y dead) k) where
    pub walk_dead : digit k dead ≡ 1
    walk_dead = let both : min (digit k y) (digit k dead) ≡ 1 = sym (digit_and k y dead) ∙ t.one in omega (arith, mod2_lt (dead / 2 ^ k), both)

    walk_has : digit k y ≡ 1
    walk_has = let both : min (digit k y) (digit k dead) ≡ 1 = sym (digit_and k y dead) ∙ t.one in omega (arith, mod2_lt (y / 2 ^ k), both)

    cleared_below : (j : ℕ) → j < suc k → digit j (bit_and (bit_xor y (get_or basis k 0)) dead) ≡ 0
    cleared_below j l = digit_and j (bit_xor y (get_or basis k 0)) dead ∙ ap (λ (x : ℕ). min x (digit j dead)) (digit_xor j y (get_or basis k 0)) ∙ dite (ℕ_discrete j k) here lower
      where
        here : j ≡ k → min ((digit j y + digit j (get_or basis k 0)) % 2) (digit j dead) ≡ 0
        here e =
            ap (λ (i : ℕ). min ((digit i y + digit i (get_or basis k 0)) % 2) (digit i dead)) e
            ∙ ap₂ (λ (p q : ℕ). min ((p + q) % 2) (digit k dead)) walk_has (b.one k t.place walk_dead) ∙ none (digit k dead)
          where
            none : (x : ℕ) → min 0 x ≡ 0
            none x = omega arith

        lower : (j ≡ k → ⊥) → min ((digit j y + digit j (get_or basis k 0)) % 2) (digit j dead) ≡ 0
        lower n =
            let under : j < k = omega arith in
            let low : min (digit j y) (digit j dead) ≡ 0 = sym (digit_and j y dead) ∙ below_lowest (bit_and y dead) k t j under in
            ap (λ (x : ℕ). min x (digit j dead)) (plus_none (digit j y) (digit j (get_or basis k 0)) (mod2_lt (y / 2 ^ j)) (b.clear k j t.place walk_dead under)) ∙ low

    walk_less : dead < 2 ^ 64 → bit_xor y (get_or basis k 0) < 2 ^ 64 → k < count_trailing_zeros 64 (bit_and (bit_xor y (get_or basis k 0)) dead)
    walk_less hd hx =
        higher k (bit_and (bit_xor y (get_or basis k 0)) dead) t.place (and_lt 64 (bit_xor y (get_or basis k 0)) dead hx hd) cleared_below

    pub walk_falls : dead < 2 ^ 64 → bit_xor y (get_or basis k 0) < 2 ^ 64 → 64 - count_trailing_zeros 64 (bit_and (bit_xor y (get_or basis k 0)) dead) < 64 - k
    walk_falls hd hx = omega (arith, walk_less hd hx, t.place)

  -- a word of the basis XORed in changes no parity
  pub walk_turn : (l ws : List ℕ) (c y k : ℕ) → Slots l ws basis dead → Lowest (bit_and y dead) k → parities ws y ≡ parities ws c
      → parities ws (bit_xor y (get_or basis k 0)) ≡ parities ws c
  walk_turn l ws c y k s t e =
      parities_xor ws y (get_or basis k 0) ∙ ap (bit_xor (parities ws y)) (s.even k t.place (walk_dead y k t)) ∙ xor_zero_r (parities ws y) ∙ e

-- without a dead bit it is its own parities
pub walk_end : (l ws basis : List ℕ) (dead y : ℕ) → Slots l ws basis dead → y < 2 ^ 64 → bit_and y dead ≡ 0 → parities ws y ≡ y
walk_end l ws basis dead y s h z =
    by_digits 64 (parities ws y) y (subst (λ (n : ℕ). parities ws y < 2 ^ n) s.wide (parities_lt ws y)) h
    (λ i li. parities_digit ws y i (omega (arith, s.wide)) ∙ ⊎_elim (alive i li) (gone i) (bit_cases (digit i dead) (mod2_lt (dead / 2 ^ i))))
  where
    apart : (j : ℕ) → min (digit j y) (digit j dead) ≡ 0
    apart j = sym (digit_and j y dead) ∙ ap (digit j) z ∙ digit_none j

    gone : (i : ℕ) → digit i dead ≡ 1 → parity (get_or ws i 0) y ≡ digit i y
    gone i e = ap (λ (w : ℕ). parity w y) (s.gone i e) ∙ parity_zero y ∙ omega (arith, apart i, mod2_lt (y / 2 ^ i))

    alive : (i : ℕ) → i < 64 → digit i dead ≡ 0 → parity (get_or ws i 0) y ≡ digit i y
    alive i li e =
        let power : 2 ^ i < 2 ^ 64 = pow-lt li in
        parity_by_digits (get_or ws i 0) (2 ^ i) y (s.small i) power h (λ j lj one. s.own i j li e (omega (arith, apart j, one, mod2_lt (dead / 2 ^ j)))) ∙ parity_pow i y

pub walk_parities : (l ws basis : List ℕ) (dead c y : ℕ) → Slots l ws basis dead → y < 2 ^ 64 → bit_and y dead ≡ 0 → parities ws y ≡ parities ws c
    → (y ≡ parities ws c) × (parities ws y ≡ y)
walk_parities l ws basis dead c y s h z e =
    let self : parities ws y ≡ y = walk_end l ws basis dead y s h z in
    (sym self ∙ e, self)

-- ---- a column taken in

module _ (l ws basis : List ℕ) (dead : ℕ) (s : Slots l ws basis dead) (c y : ℕ) (ey : y ≡ parities ws c) where
  -- no word is odd with it
  pub column_even : y ≡ 0 → Slots (step c l) ws basis dead
  column_even z =
      record {
        wide = s.wide;
        small = s.small;
        gone = s.gone;
        own = s.own;
        even = s.even;
        held = sym (kept_same c ws dead (sym ey ∙ z)) ∙ ap (step c) s.held;
      }

  -- slot k is the first that is
  module _ (k : ℕ) (t : Lowest y k) (self : parities ws y ≡ y) where
    p : ℕ
    p = get_or ws k 0

    at : (j : ℕ) → j < 64 → parity (get_or ws j 0) c ≡ digit j y
    at j lj = sym (ap (digit j) ey ∙ parities_digit ws c j (omega (arith, s.wide)))

    odd : parity (get_or ws k 0) c ≡ 1
    odd = at k t.place ∙ t.one

    alive : digit k dead ≡ 0
    alive =
        ⊎_elim (λ (e : digit k dead ≡ 0). e)
        (λ (e : digit k dead ≡ 1).
        let none : parity (get_or ws k 0) c ≡ 0 = ap (λ (w : ℕ). parity w c) (s.gone k e) ∙ parity_zero c in
        let z : ⊥ = omega (arith, odd, none) in
        absurd z)
        (bit_cases (digit k dead) (mod2_lt (dead / 2 ^ k)))

    other : (j : ℕ) → (j ≡ k → ⊥) → digit j (bit_xor dead (2 ^ k)) ≡ digit j dead
    other j n = digit_xor j dead (2 ^ k) ∙ plus_none (digit j dead) (digit j (2 ^ k)) (mod2_lt (dead / 2 ^ j)) (power_other j k n)

    here : digit k (bit_xor dead (2 ^ k)) ≡ 1
    here = digit_xor k dead (2 ^ k) ∙ ap₂ (λ (a b : ℕ). (a + b) % 2) alive (ap (λ (x : ℕ). x % 2) (power_top k))

    differs : (j : ℕ) → digit j (bit_xor dead (2 ^ k)) ≡ 0 → j ≡ k → ⊥
    differs j e same = let z : ⊥ = omega (arith, e, ap (λ (i : ℕ). digit i (bit_xor dead (2 ^ k))) same, here) in z

    slots_even : (v : ℕ) → parities ws v ≡ 0 → parities (cleared c p ws) v ≡ 0
    unfolding p
    slots_even v e =
        let none : parity p v ≡ 0 = sym (parities_digit ws v k (omega (arith, s.wide, t.place))) ∙ ap (digit k) e ∙ digit_none k in
        sym (slots_after c p v ws) ∙ ap₂ (λ (a d : ℕ). bit_xor a (d * parities ws c)) e none ∙ zero-mul (parities ws c)

    column_even_too : parities (cleared c p ws) y ≡ 0
    unfolding p
    column_even_too =
        let one : parity p y ≡ 1 = sym (parities_digit ws y k (omega (arith, s.wide, t.place))) ∙ ap (digit k) self ∙ t.one in
        sym (slots_after c p y ws) ∙ ap₂ (λ (a d : ℕ). bit_xor a (d * parities ws c)) self one
        ∙ ap (bit_xor y) (one-mul (parities ws c) ∙ sym ey) ∙ xor_self y

    own_after : (i j : ℕ) → i < 64 → digit i (bit_xor dead (2 ^ k)) ≡ 0 → digit j (bit_xor dead (2 ^ k)) ≡ 0 → digit j (get_or (cleared c p ws) i 0) ≡ digit j (2 ^ i)
    unfolding p
    own_after i j li ei ej =
        let ai : digit i dead ≡ 0 = sym (other i (differs i ei)) ∙ ei in
        let aj : digit j dead ≡ 0 = sym (other j (differs j ej)) ∙ ej in
        let none : digit j p ≡ 0 = s.own k j t.place alive aj ∙ power_other j k (differs j ej) in
        ap (digit j) (sym (slot_chosen c p ws i)) ∙ digit_xor j (get_or ws i 0) (parity (get_or ws i 0) c * p)
        ∙ plus_none (digit j (get_or ws i 0)) (digit j (parity (get_or ws i 0) c * p)) (mod2_lt (get_or ws i 0 / 2 ^ j)) (chosen_none j (parity (get_or ws i 0) c) p (parity_cases (get_or ws i 0) c) none)
        ∙ s.own i j li ai aj
      where
        chosen_none : (j d x : ℕ) → (d ≡ 0) ⊎ (d ≡ 1) → digit j x ≡ 0 → digit j (d * x) ≡ 0
        chosen_none j d x cases e =
            ⊎_elim (λ (z : d ≡ 0). ap (λ (w : ℕ). digit j (w * x)) z ∙ ap (digit j) (zero-mul x) ∙ digit_none j)
            (λ (z : d ≡ 1). ap (λ (w : ℕ). digit j (w * x)) z ∙ ap (digit j) (one-mul x) ∙ e) cases

    inside : k < length basis → length basis ≡ 64 → (d : ℕ) → d < 64 → digit d (bit_xor dead (2 ^ k)) ≡ 1 → parities (cleared c p ws) (get_or (set basis k y) d 0) ≡ 0
    inside lk long d ld e = dite (ℕ_discrete d k) same more
      where
        same : d ≡ k → parities (cleared c p ws) (get_or (set basis k y) d 0) ≡ 0
        same q = ap (λ (i : ℕ). parities (cleared c p ws) (get_or (set basis k y) i 0)) q ∙ ap (parities (cleared c p ws)) (get_or-set_same basis k y 0 lk) ∙ column_even_too

        more : (d ≡ k → ⊥) → parities (cleared c p ws) (get_or (set basis k y) d 0) ≡ 0
        more n = ap (parities (cleared c p ws)) (get_or-set_other basis k d y 0 n) ∙ slots_even (get_or basis d 0) (s.even d ld (sym (other d n) ∙ e))

    pub column_odd : length basis ≡ 64 → Slots (step c l) (cleared c (get_or ws k 0) ws) (set basis k y) (bit_xor dead (2 ^ k))
    unfolding p
    column_odd long =
        record {
          wide = length_cleared c p ws ∙ s.wide;
          small = small_after c p ws (s.small k) s.small;
          gone = gone_after c ws k dead odd s.gone;
          own = own_after;
          even = inside (omega (arith, long, t.place)) long;
          held = sym (step_kept c ws k dead (omega (arith, s.wide, t.place)) odd before s.gone) ∙ ap (step c) s.held;
        }
      where
        before : (j : ℕ) → j < k → parity (get_or ws j 0) c ≡ 0
        before j lj = at j (omega (arith, t.place)) ∙ below_lowest y k t j lj

-- the basis with it
pub basis_grown : (basis : List ℕ) (dead y k : ℕ) → Basis basis dead → Lowest y k → Basis (set basis k y) (bit_xor dead (2 ^ k))
basis_grown basis dead y k b t =
    record {
      long = length-set basis k y ∙ b.long;
      one = λ d ld e. dite (ℕ_discrete d k) (λ (q : d ≡ k). ap (digit d) (new d q) ∙ ap (λ (i : ℕ). digit i y) q ∙ t.one) (λ (n : d ≡ k → ⊥). ap (digit d) (old d n) ∙ b.one d ld (sym (before d n) ∙ e));
      clear = λ d j ld e lj. dite (ℕ_discrete d k) (λ (q : d ≡ k). ap (digit j) (new d q) ∙ below_lowest y k t j (omega arith)) (λ (n : d ≡ k → ⊥). ap (digit j) (old d n) ∙ b.clear d j ld (sym (before d n) ∙ e) lj);
    }
  where
    new : (d : ℕ) → d ≡ k → get_or (set basis k y) d 0 ≡ y
    new d q = ap (λ (i : ℕ). get_or (set basis k y) i 0) q ∙ get_or-set_same basis k y 0 (omega (arith, b.long, t.place))

    old : (d : ℕ) → (d ≡ k → ⊥) → get_or (set basis k y) d 0 ≡ get_or basis d 0
    old d n = get_or-set_other basis k d y 0 n

    before : (d : ℕ) → (d ≡ k → ⊥) → digit d (bit_xor dead (2 ^ k)) ≡ digit d dead
    before d n = digit_xor d dead (2 ^ k) ∙ plus_none (digit d dead) (digit d (2 ^ k)) (mod2_lt (dead / 2 ^ d)) (power_other d k n)
