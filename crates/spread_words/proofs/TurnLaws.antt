-- The test of the words' own bits, and the basis made of the slots' words. Assumes nothing.
use mathlib.Core.Path.{◌≡◌, refl, sym, ap, ap₂, ◌∙◌, subst}
use mathlib.Core.Logic.{⊎_elim, dite}
use mathlib.Core.List.{List, [], ◌∷◌}
use Prim.Native.Nat.{ℕ, suc, ◌+◌, ◌*◌, ◌/◌, ◌%◌, ◌^◌, ◌≤◌, ◌<◌, min}
use native.Mathlib.Nat.{zero-mul, one-mul, mod-lt, not-suc-le-zero, lt_of_lt_of_le}
use native.Mathlib.Decide.{dec_lt, ℕ_discrete}
use native.Mathlib.Omega.{arith}
use lib.Bits.{bit_xor, bit_and, xor_lt}
use lib.ListN.{length, get_or, get_or-eq_default}
use lib.Pow.{pow_pos, pow-lt, pow_mono, split}
use Rattle.word.specs.Word.{digit, parity}
use Rattle.word.specs.Parities.{parities}
use Rattle.word.proofs.Laws.{bit_cases, mod2_lt, parity_zero, parity_pow, parity_xor, digit_xor}
use Rattle.word.proofs.LowestLaws.{digit_past}
use Rattle.combinations.specs.Step.{units}
use Rattle.combinations.proofs.Units.{power_top, one_bit, length_units, units_at}
use Rattle.turned_words.specs.Turned.{kept, XoredInto}
use Rattle.column_basis.specs.Basis.{Basis, Held}
use Rattle.column_basis.proofs.BitLaws.{digit_and, digit_none, digit_chosen}
use Rattle.turned_words.proofs.TurnedLaws.{power_other}
use Rattle.column_basis.proofs.BasisLaws.{parity_by_digits}
use Rattle.spread_words.specs.Spread.{Spread, OwnBits}
use Rattle.spread_words.proofs.SpreadLaws.{all_ones}

-- ---- the loop of the test

-- ---- words below their slot's next bit

top_below : (w i : ℕ) → w / 2 ^ i ≡ 1 → w < 2 ^ suc i
top_below w i e = omega (arith, rw e at (split w i), mod-lt w (pow_pos i))

module _ (ws : List ℕ) (dead : ℕ) (s : Spread ws dead) (o : OwnBits ws dead) where
  below : (i : ℕ) → i < 64 → get_or ws i 0 < 2 ^ suc i
  below i li =
      ⊎_elim (λ (a : digit i dead ≡ 0). top_below (get_or ws i 0) i (s.top i li a))
      (λ (a : digit i dead ≡ 1). subst (λ (x : ℕ). x < 2 ^ suc i) (sym (s.gone i a)) (pow_pos (suc i))) (bit_cases (digit i dead) (mod2_lt (dead / 2 ^ i)))

  small : (i : ℕ) → get_or ws i 0 < 2 ^ 64
  small i =
      dite (dec_lt i 64) (λ (li : i < 64). lt_of_lt_of_le (below i li) (pow_mono li))
      (λ (n : i < 64 → ⊥). subst (λ (x : ℕ). x < 2 ^ 64) (sym (get_or-eq_default ws 0 {n = i} (omega (arith, s.wide)))) (omega arith))

  own : (i j : ℕ) → i < 64 → digit i dead ≡ 0 → digit j dead ≡ 0 → digit j (get_or ws i 0) ≡ digit j (2 ^ i)
  own i j li a b = dite (dec_lt j 64) inside outside
    where
      inside : j < 64 → digit j (get_or ws i 0) ≡ digit j (2 ^ i)
      inside lj =
          let here : digit j (bit_xor dead 18446744073709551615) ≡ 1 = digit_xor j dead 18446744073709551615 ∙ ap₂ (λ (x y : ℕ). (x + y) % 2) b (all_ones j lj) in
          let alike : min (digit j (get_or ws i 0)) (digit j (bit_xor dead 18446744073709551615)) ≡ min (digit j (bit_xor dead 18446744073709551615)) (digit j (2 ^ i)) =
          sym (digit_and j (get_or ws i 0) (bit_xor dead 18446744073709551615)) ∙ ap (digit j) (o i li) ∙ digit_and j (bit_xor dead 18446744073709551615) (2 ^ i) in
          cut (digit j (get_or ws i 0)) (digit j (2 ^ i)) (digit j (bit_xor dead 18446744073709551615)) (mod2_lt (get_or ws i 0 / 2 ^ j)) (mod2_lt (2 ^ i / 2 ^ j)) here alike
        where
          cut : (x y m : ℕ) → x < 2 → y < 2 → m ≡ 1 → min x m ≡ min m y → x ≡ y
          cut x y m hx hy hm e = omega arith

      outside : (j < 64 → ⊥) → digit j (get_or ws i 0) ≡ digit j (2 ^ i)
      outside n = digit_past 64 (get_or ws i 0) j (small i) (omega arith) ∙ sym (power_other j i (λ (q : j ≡ i). (let z : ⊥ = omega arith in z)))

-- ---- the loop over the slots: the dead bits of the words before slot i are turned

pub record TurnedIn (ws basis : List ℕ) (dead i : ℕ) : Type 0 where
  pub long : length basis ≡ 64
  pub small : (d : ℕ) → d < 64 → get_or basis d 0 < 2 ^ 64
  pub done : (d j : ℕ) → d < 64 → j < i → digit j (get_or basis d 0) ≡ (digit j (2 ^ d) + min (digit d (get_or ws j 0)) (digit d dead)) % 2
  pub rest : (d j : ℕ) → d < 64 → i ≤ j → digit j (get_or basis d 0) ≡ digit j (2 ^ d)

pub turned_start : (ws basis : List ℕ) (dead : ℕ) → basis ≡ units 64 → TurnedIn ws basis dead 0
turned_start ws basis dead e =
    record {
      long = ap length e ∙ length_units 64;
      small = λ d ld. subst (λ (x : ℕ). x < 2 ^ 64) (sym (unit d ld)) (pow-lt ld);
      done = λ d j ld l. absurd (not-suc-le-zero l);
      rest = λ d j ld l. ap (digit j) (unit d ld);
    }
  where
    unit : (d : ℕ) → d < 64 → get_or basis d 0 ≡ 2 ^ d
    unit d ld = ap (λ (l : List ℕ). get_or l d 0) e ∙ units_at 64 d ld

pub turned_turn : (ws basis basis' : List ℕ) (dead i w : ℕ) → TurnedIn ws basis dead i → i < 64 → w ≡ get_or ws i 0
    → XoredInto basis basis' (bit_and w dead) ((1 * 2 ^ i) % 18446744073709551616) → TurnedIn ws basis' dead (i + 1)
turned_turn ws basis basis' dead i w t li ew x =
    record {
      long = x.long ∙ t.long;
      small = λ d ld. subst (λ (y : ℕ). y < 2 ^ 64) (sym (word d ld)) (xor_lt 64 (get_or basis d 0) (m d * 2 ^ i) (t.small d ld) (chosen_below (m d) (mod2_lt (bit_and w dead / 2 ^ d))));
      done = λ d j ld l. word_digit d j ld ∙ dite (ℕ_discrete j i) (here d j ld) (λ (n : j ≡ i → ⊥). other d j n ∙ t.done d j ld (omega arith));
      rest = λ d j ld l. word_digit d j ld ∙ other d j (λ (q : j ≡ i). (let z : ⊥ = omega arith in z)) ∙ t.rest d j ld (omega arith);
    }
  where
    m : ℕ → ℕ
    m d = digit d (bit_and w dead)

    pi : 2 ^ i < 2 ^ 64
    pi = pow-lt li

    chosen_below : (y : ℕ) → y < 2 → y * 2 ^ i < 2 ^ 64
    chosen_below y hy =
        ⊎_elim (λ (z : y ≡ 0). subst (λ (u : ℕ). u * 2 ^ i < 2 ^ 64) (sym z) (omega (arith, zero-mul (2 ^ i))))
        (λ (z : y ≡ 1). subst (λ (u : ℕ). u * 2 ^ i < 2 ^ 64) (sym z) (omega (arith, one-mul (2 ^ i), pi))) (bit_cases y hy)

    word : (d : ℕ) → d < 64 → get_or basis' d 0 ≡ bit_xor (get_or basis d 0) (m d * 2 ^ i)
    word d ld = x.each d (omega (arith, t.long)) ∙ ap (λ (y : ℕ). bit_xor (get_or basis d 0) (m d * y)) (one_bit i li)

    word_digit : (d j : ℕ) → d < 64 → digit j (get_or basis' d 0) ≡ (digit j (get_or basis d 0) + m d * digit j (2 ^ i)) % 2
    word_digit d j ld =
        ap (digit j) (word d ld) ∙ digit_xor j (get_or basis d 0) (m d * 2 ^ i)
        ∙ ap (λ (q : ℕ). (digit j (get_or basis d 0) + q) % 2) (digit_chosen j (m d) (2 ^ i) (mod2_lt (bit_and w dead / 2 ^ d)))

    other : (d j : ℕ) → (j ≡ i → ⊥) → (digit j (get_or basis d 0) + m d * digit j (2 ^ i)) % 2 ≡ digit j (get_or basis d 0)
    other d j n = ap (λ (v : ℕ). (digit j (get_or basis d 0) + m d * v) % 2) (power_other j i n) ∙ only (digit j (get_or basis d 0)) (m d) (mod2_lt (get_or basis d 0 / 2 ^ j))
      where
        only : (y u : ℕ) → y < 2 → (y + u * 0) % 2 ≡ y
        only y u h = omega arith

    here : (d j : ℕ) → d < 64 → j ≡ i → (digit j (get_or basis d 0) + m d * digit j (2 ^ i)) % 2 ≡ (digit j (2 ^ d) + min (digit d (get_or ws j 0)) (digit d dead)) % 2
    here d j ld q =
        ap (λ (k : ℕ). (digit k (get_or basis d 0) + m d * digit k (2 ^ i)) % 2) q
        ∙ ap₂ (λ (u v : ℕ). (u + m d * v) % 2) (t.rest d i ld (omega arith)) (ap (λ (y : ℕ). y % 2) (power_top i))
        ∙ ap (λ (v : ℕ). (digit i (2 ^ d) + v) % 2) (times_one (m d) ∙ digit_and d w dead ∙ ap (λ (y : ℕ). min (digit d y) (digit d dead)) ew)
        ∙ ap (λ (k : ℕ). (digit k (2 ^ d) + min (digit d (get_or ws k 0)) (digit d dead)) % 2) (sym q)
      where
        times_one : (y : ℕ) → y * 1 ≡ y
        times_one y = omega arith

-- ---- the basis

pub parities_none : (ws : List ℕ) (y : ℕ) → ((i : ℕ) → i < length ws → parity (get_or ws i 0) y ≡ 0) → parities ws y ≡ 0
unfolding parities
parities_none [] y h = refl
parities_none (w ∷ ws) y h = ap₂ (λ (a b : ℕ). a + 2 * b) (h 0 (omega arith)) (parities_none ws y (λ i l. h (suc i) (omega arith)))

module _ (ws basis : List ℕ) (dead : ℕ) (s : Spread ws dead) (o : OwnBits ws dead) (t : TurnedIn ws basis dead 64) where
  bit : (d j : ℕ) → d < 64 → digit d dead ≡ 1 → j < 64 → digit j (get_or basis d 0) ≡ (digit j (2 ^ d) + digit d (get_or ws j 0)) % 2
  bit d j ld e lj =
      t.done d j ld lj ∙ ap (λ (x : ℕ). (digit j (2 ^ d) + x) % 2) (cut (digit d (get_or ws j 0)) (digit d dead) (mod2_lt (get_or ws j 0 / 2 ^ d)) e)
    where
      cut : (x m : ℕ) → x < 2 → m ≡ 1 → min x m ≡ x
      cut x m h e = omega arith

  bit_own : (d : ℕ) → d < 64 → digit d dead ≡ 1 → digit d (get_or basis d 0) ≡ 1
  bit_own d ld e =
      bit d d ld e ld ∙ ap₂ (λ (x y : ℕ). (x + y) % 2) (ap (λ (x : ℕ). x % 2) (power_top d)) (ap (digit d) (s.gone d e) ∙ digit_none d)

  -- the bit of another slot
  bit_other : (d j : ℕ) → d < 64 → digit d dead ≡ 1 → j < 64 → (j ≡ d → ⊥) → digit j (get_or basis d 0) ≡ digit d (get_or ws j 0)
  bit_other d j ld e lj n =
      bit d j ld e lj ∙ ap (λ (x : ℕ). (x + digit d (get_or ws j 0)) % 2) (power_other j d n) ∙ only (digit d (get_or ws j 0)) (mod2_lt (get_or ws j 0 / 2 ^ d))
    where
      only : (x : ℕ) → x < 2 → (0 + x) % 2 ≡ x
      only x h = omega arith

  even_slot : (d i : ℕ) → d < 64 → digit d dead ≡ 1 → i < 64 → digit i dead ≡ 0 → parity (get_or ws i 0) (get_or basis d 0) ≡ 0
  even_slot d i ld e li a =
      parity_by_digits (get_or ws i 0) two (get_or basis d 0) (small ws dead s o i) (xor_lt 64 (2 ^ i) (x * 2 ^ d) pi xs) (t.small d ld) (λ j lj one. sym (agree j lj one))
      ∙ parity_xor (2 ^ i) (x * 2 ^ d) (get_or basis d 0)
      ∙ ap₂ (λ (p q : ℕ). (p + q) % 2) (parity_pow i (get_or basis d 0) ∙ bit_other d i ld e li apart) (chosen_parity x (mod2_lt (get_or ws i 0 / 2 ^ d)))
      ∙ twice x
    where
      x : ℕ
      x = digit d (get_or ws i 0)

      two : ℕ
      two = bit_xor (2 ^ i) (x * 2 ^ d)

      pi : 2 ^ i < 2 ^ 64
      pi = pow-lt li

      pd : 2 ^ d < 2 ^ 64
      pd = pow-lt ld

      chosen_lt : (y : ℕ) → y < 2 → y * 2 ^ d < 2 ^ 64
      chosen_lt y hy =
          ⊎_elim (λ (z : y ≡ 0). subst (λ (u : ℕ). u * 2 ^ d < 2 ^ 64) (sym z) (omega (arith, zero-mul (2 ^ d))))
          (λ (z : y ≡ 1). subst (λ (u : ℕ). u * 2 ^ d < 2 ^ 64) (sym z) (omega (arith, one-mul (2 ^ d), pd))) (bit_cases y hy)

      xs : x * 2 ^ d < 2 ^ 64
      xs = chosen_lt x (mod2_lt (get_or ws i 0 / 2 ^ d))

      twice : (y : ℕ) → (y + y) % 2 ≡ 0
      twice y = omega arith

      apart : i ≡ d → ⊥
      apart q = let z : ⊥ = omega (arith, a, ap (λ (k : ℕ). digit k dead) q, e) in z

      chosen_parity : (y : ℕ) → y < 2 → parity (y * 2 ^ d) (get_or basis d 0) ≡ y
      chosen_parity y hy =
          ⊎_elim (λ (z : y ≡ 0). ap (λ (u : ℕ). parity (u * 2 ^ d) (get_or basis d 0)) z ∙ ap (λ (u : ℕ). parity u (get_or basis d 0)) (zero-mul (2 ^ d)) ∙ parity_zero (get_or basis d 0) ∙ sym z)
          (λ (z : y ≡ 1). ap (λ (u : ℕ). parity (u * 2 ^ d) (get_or basis d 0)) z ∙ ap (λ (u : ℕ). parity u (get_or basis d 0)) (one-mul (2 ^ d)) ∙ parity_pow d (get_or basis d 0) ∙ bit_own d ld e ∙ sym z)
          (bit_cases y hy)

      agree : (j : ℕ) → j < 64 → digit j (get_or basis d 0) ≡ 1 → digit j two ≡ digit j (get_or ws i 0)
      agree j lj one =
          digit_xor j (2 ^ i) (x * 2 ^ d) ∙ ap (λ (q : ℕ). (digit j (2 ^ i) + q) % 2) (digit_chosen j x (2 ^ d) (mod2_lt (get_or ws i 0 / 2 ^ d)))
          ∙ dite (ℕ_discrete j d) here other
        where
          here : j ≡ d → (digit j (2 ^ i) + x * digit j (2 ^ d)) % 2 ≡ digit j (get_or ws i 0)
          here q =
              ap₂ (λ (u v : ℕ). (u + x * v) % 2) (power_other j i (λ (r : j ≡ i). apart (sym r ∙ q))) (ap (λ (k : ℕ). digit k (2 ^ d)) q ∙ ap (λ (y : ℕ). y % 2) (power_top d))
              ∙ only x (mod2_lt (get_or ws i 0 / 2 ^ d)) ∙ ap (λ (k : ℕ). digit k (get_or ws i 0)) (sym q)
            where
              only : (y : ℕ) → y < 2 → (0 + y * 1) % 2 ≡ y
              only y h = omega arith

          alive : (j ≡ d → ⊥) → digit j dead ≡ 0
          alive n =
              ⊎_elim (λ (z : digit j dead ≡ 0). z)
              (λ (z : digit j dead ≡ 1). (let no : ⊥ = omega (arith, one, bit_other d j ld e lj n, ap (digit d) (s.gone j z), digit_none d) in absurd no)) (bit_cases (digit j dead) (mod2_lt (dead / 2 ^ j)))

          other : (j ≡ d → ⊥) → (digit j (2 ^ i) + x * digit j (2 ^ d)) % 2 ≡ digit j (get_or ws i 0)
          other n =
              ap (λ (v : ℕ). (digit j (2 ^ i) + x * v) % 2) (power_other j d n) ∙ only (digit j (2 ^ i)) x (mod2_lt (2 ^ i / 2 ^ j)) ∙ sym (own ws dead s o i j li a (alive n))
            where
              only : (y u : ℕ) → y < 2 → (y + u * 0) % 2 ≡ y
              only y u h = omega arith

  pub turned_basis : Basis basis dead
  turned_basis =
      record {
        long = t.long;
        one = bit_own;
        clear = λ d j ld e lj. bit_other d j ld e (omega arith) (λ (q : j ≡ d). (let z : ⊥ = omega arith in z)) ∙ digit_past (suc j) (get_or ws j 0) d (below ws dead s o j (omega arith)) (omega arith);
      }

  pub turned_held : Held (kept dead ws) basis dead
  turned_held =
      record {
        slots = ws;
        hold = record {
          wide = s.wide;
          small = small ws dead s o;
          gone = s.gone;
          own = own ws dead s o;
          even = λ d ld e. parities_none ws (get_or basis d 0) (λ i l. ⊎_elim (even_slot d i ld e (omega (arith, s.wide))) (λ (z : digit i dead ≡ 1). ap (λ (x : ℕ). parity x (get_or basis d 0)) (s.gone i z) ∙ parity_zero (get_or basis d 0)) (bit_cases (digit i dead) (mod2_lt (dead / 2 ^ i))));
          held = refl;
        };
      }

pub turned_end : (ws basis : List ℕ) (dead i : ℕ) → Spread ws dead → OwnBits ws dead → TurnedIn ws basis dead i → i ≤ 64 → 64 ≤ i → Basis basis dead × Held (kept dead ws) basis dead
turned_end ws basis dead i s o t l h =
    let all : i ≡ 64 = omega arith in
    let t' : TurnedIn ws basis dead 64 = subst (TurnedIn ws basis dead) all t in
    (turned_basis ws basis dead s o t', turned_held ws basis dead s o t')
