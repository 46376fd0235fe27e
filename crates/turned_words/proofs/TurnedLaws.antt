-- Words and their rows: the parities of a column with all words at once, the slots after a step with a pivot, and the rows made. Assumes nothing.
use mathlib.Core.Path.{◌≡◌, refl, sym, ap, ap₂, ◌∙◌, subst}
use mathlib.Core.Logic.{⊎_elim, dite}
use mathlib.Core.List.{List, [], ◌∷◌, ◌++◌}
use Prim.Native.Nat.{ℕ, zero, suc, ◌+◌, ◌*◌, ◌/◌, ◌%◌, ◌^◌, ◌≤◌, ◌<◌, min}
use native.Mathlib.Nat.{zero-mul, one-mul, mod-lt, mod-one, mod-eq_of_lt}
use native.Mathlib.Numerals.{one-add, add-one}
use native.Mathlib.Decide.{dec_lt, ℕ_discrete}
use native.Mathlib.Omega.{arith}
use lib.Bits.{bit_xor, xor_comm, xor_zero_r, xor_self, xor_shifted, xor_lt}
use lib.ListN.{length, get_or, take, get_or-replicate}
use lib.Pow.{pow_pos, pow-lt, mod-pow-add}
use lib.Seq.{take_all, take-suc, length-take-le}
use Rattle.word.specs.Word.{digit, parity}
use Rattle.word.specs.Parities.{parities}
use Rattle.word.specs.Span.{xor_below}
use Rattle.word.specs.Zeros.{zeros}
use Rattle.word.specs.Marked.{xor_marked}
use Rattle.word.proofs.Laws.{bit_cases, mod2_lt, parity_lt, parity_cases, parity_comm, parity_zero, parity_xor, parity_xor_right, parity_pow, digit_xor, parities_lt, parities_zero, parities_xor}
use Rattle.word.proofs.XorLaws.{xor_below_ext}
use Rattle.word.proofs.LowestLaws.{digit_past}
use Rattle.word.proofs.FrontLaws.{length_zeros}
use Rattle.combinations.specs.Step.{by_parity, cleared}
use Rattle.combinations.proofs.Units.{power_digit, one_bit}
use Rattle.turned_words.specs.Turned.{Turns, XoredInto}
use Rattle.turned_words.proofs.KeptLaws.{Gone}

-- ---- a word by its bits

pub by_bits : (n c : ℕ) → xor_below n (λ b. digit b c * 2 ^ b) ≡ c % 2 ^ n
unfolding xor_below
by_bits zero c = sym (mod-one c)
by_bits (suc n) c =
    ap (λ (x : ℕ). bit_xor x (digit n c * 2 ^ n)) (by_bits n c) ∙ xor_comm (c % 2 ^ n) (digit n c * 2 ^ n)
    ∙ xor_shifted (digit n c) n (c % 2 ^ n) (mod-lt c (pow_pos n))
    ∙ sym (ap (λ (x : ℕ). c % 2 ^ x) (sym (one-add n)) ∙ mod-pow-add c 1 n)

-- ---- the parities of a column from the rows

module _ (ws : List ℕ) where
  pub parities_below : (n : ℕ) (f : ℕ → ℕ) → parities ws (xor_below n f) ≡ xor_below n (λ b. parities ws (f b))
  unfolding xor_below
  parities_below zero f = parities_zero ws
  parities_below (suc n) f =
      parities_xor ws (xor_below n f) (f n) ∙ ap (λ (x : ℕ). bit_xor x (parities ws (f n))) (parities_below n f)

  parities_chosen : (d y : ℕ) → d < 2 → d * parities ws y ≡ parities ws (d * y)
  parities_chosen d y h =
      ⊎_elim
      (λ (e : d ≡ 0).
      ap (λ (x : ℕ). x * parities ws y) e ∙ zero-mul (parities ws y) ∙ sym (ap (λ (x : ℕ). parities ws (x * y)) e ∙ ap (parities ws) (zero-mul y) ∙ parities_zero ws))
      (λ (e : d ≡ 1).
      ap (λ (x : ℕ). x * parities ws y) e ∙ one-mul (parities ws y) ∙ sym (ap (λ (x : ℕ). parities ws (x * y)) e ∙ ap (parities ws) (one-mul y)))
      (bit_cases d h)

  -- the XOR of the rows of a column's bits is its parities with all the words
  pub rows_marked : (rows : List ℕ) (c : ℕ) → Turns ws rows → c < 2 ^ 64 → xor_marked rows c ≡ parities ws c
  unfolding xor_marked
  rows_marked rows c t h =
      ap (λ (n : ℕ). xor_below n (λ i. digit i c * get_or rows i 0)) t.long
      ∙ xor_below_ext 64 (λ i. digit i c * get_or rows i 0) (λ i. parities ws (digit i c * 2 ^ i))
      (λ i l. ap (λ (x : ℕ). digit i c * x) (t.each i l) ∙ parities_chosen (digit i c) (2 ^ i) (mod2_lt (c / 2 ^ i)))
      ∙ sym (parities_below 64 (λ i. digit i c * 2 ^ i)) ∙ ap (parities ws) (by_bits 64 c ∙ mod-eq_of_lt h)

-- ---- the slots after a step

parities_cons : (w : ℕ) (ws : List ℕ) (y : ℕ) → parities (w ∷ ws) y ≡ parity w y + 2 * parities ws y
unfolding parities
parities_cons w ws y = refl

pub plus_none : (a b : ℕ) → a < 2 → b ≡ 0 → (a + b) % 2 ≡ a
plus_none a b l h = omega arith

module _ (c p y : ℕ) where
  abbrev word_after : ℕ → ℕ
  word_after w = by_parity (parity w c) w (bit_xor w p)

  word_even : parity p y ≡ 0 → (w : ℕ) → parity (word_after w) y ≡ parity w y
  word_even h w =
      ⊎_elim (λ (e : parity w c ≡ 0). ap (λ (d : ℕ). parity (by_parity d w (bit_xor w p)) y) e)
      (λ (e : parity w c ≡ 1).
      ap (λ (d : ℕ). parity (by_parity d w (bit_xor w p)) y) e ∙ parity_xor w p y ∙ plus_none (parity w y) (parity p y) (parity_lt w y) h)
      (parity_cases w c)

  word_odd : parity p y ≡ 1 → (w : ℕ) → parity (word_after w) y ≡ parity w (bit_xor y c)
  word_odd h w =
      ⊎_elim
      (λ (e : parity w c ≡ 0).
      ap (λ (d : ℕ). parity (by_parity d w (bit_xor w p)) y) e
      ∙ sym (parity_xor_right w y c ∙ plus_none (parity w y) (parity w c) (parity_lt w y) e))
      (λ (e : parity w c ≡ 1).
      ap (λ (d : ℕ). parity (by_parity d w (bit_xor w p)) y) e ∙ parity_xor w p y
      ∙ ap (λ (d : ℕ). (parity w y + d) % 2) (h ∙ sym e) ∙ sym (parity_xor_right w y c))
      (parity_cases w c)

  slots_even : parity p y ≡ 0 → (ws : List ℕ) → parities (cleared c p ws) y ≡ parities ws y
  unfolding cleared
  slots_even h [] = refl
  slots_even h (w ∷ ws) =
      parities_cons (word_after w) (cleared c p ws) y
      ∙ ap₂ (λ (a b : ℕ). a + 2 * b) (word_even h w) (slots_even h ws) ∙ sym (parities_cons w ws y)

  slots_odd : parity p y ≡ 1 → (ws : List ℕ) → parities (cleared c p ws) y ≡ parities ws (bit_xor y c)
  unfolding cleared parities
  slots_odd h [] = refl
  slots_odd h (w ∷ ws) = ap₂ (λ (a b : ℕ). a + 2 * b) (word_odd h w) (slots_odd h ws)

  -- with the column's parities XORed in where the pivot has the bit
  pub slots_after : (ws : List ℕ) → bit_xor (parities ws y) (parity p y * parities ws c) ≡ parities (cleared c p ws) y
  slots_after ws =
      ⊎_elim
      (λ (e : parity p y ≡ 0).
      ap (λ (d : ℕ). bit_xor (parities ws y) (d * parities ws c)) e ∙ ap (bit_xor (parities ws y)) (zero-mul (parities ws c))
      ∙ xor_zero_r (parities ws y) ∙ sym (slots_even e ws))
      (λ (e : parity p y ≡ 1).
      ap (λ (d : ℕ). bit_xor (parities ws y) (d * parities ws c)) e ∙ ap (bit_xor (parities ws y)) (one-mul (parities ws c))
      ∙ sym (parities_xor ws y c) ∙ sym (slots_odd e ws))
      (parity_cases p y)

slot_after : (c p : ℕ) (ws : List ℕ) (k : ℕ) → get_or (cleared c p ws) k 0 ≡ by_parity (parity (get_or ws k 0) c) (get_or ws k 0) (bit_xor (get_or ws k 0) p)
unfolding cleared
slot_after c p [] k = sym (ap (λ (d : ℕ). by_parity d 0 (bit_xor 0 p)) (parity_zero c))
slot_after c p (w ∷ ws) zero = refl
slot_after c p (w ∷ ws) (suc k) = slot_after c p ws k

module _ (c p : ℕ) (ws : List ℕ) where
  slot_even : (k : ℕ) → parity (get_or ws k 0) c ≡ 0 → get_or (cleared c p ws) k 0 ≡ get_or ws k 0
  slot_even k e = slot_after c p ws k ∙ ap (λ (d : ℕ). by_parity d (get_or ws k 0) (bit_xor (get_or ws k 0) p)) e

  slot_odd : (k : ℕ) → parity (get_or ws k 0) c ≡ 1 → get_or (cleared c p ws) k 0 ≡ bit_xor (get_or ws k 0) p
  slot_odd k e = slot_after c p ws k ∙ ap (λ (d : ℕ). by_parity d (get_or ws k 0) (bit_xor (get_or ws k 0) p)) e

  pub slot_chosen : (k : ℕ) → bit_xor (get_or ws k 0) (parity (get_or ws k 0) c * p) ≡ get_or (cleared c p ws) k 0
  slot_chosen k =
      ⊎_elim
      (λ (e : parity (get_or ws k 0) c ≡ 0).
      ap (λ (d : ℕ). bit_xor (get_or ws k 0) (d * p)) e ∙ ap (bit_xor (get_or ws k 0)) (zero-mul p) ∙ xor_zero_r (get_or ws k 0) ∙ sym (slot_even k e))
      (λ (e : parity (get_or ws k 0) c ≡ 1).
      ap (λ (d : ℕ). bit_xor (get_or ws k 0) (d * p)) e ∙ ap (bit_xor (get_or ws k 0)) (one-mul p) ∙ sym (slot_odd k e))
      (parity_cases (get_or ws k 0) c)

  pub small_after : p < 2 ^ 64 → ((k : ℕ) → get_or ws k 0 < 2 ^ 64) → (k : ℕ) → get_or (cleared c p ws) k 0 < 2 ^ 64
  small_after hp small k =
      ⊎_elim (λ (e : parity (get_or ws k 0) c ≡ 0). subst (λ (x : ℕ). x < 2 ^ 64) (sym (slot_even k e)) (small k))
      (λ (e : parity (get_or ws k 0) c ≡ 1). subst (λ (x : ℕ). x < 2 ^ 64) (sym (slot_odd k e)) (xor_lt 64 (get_or ws k 0) p (small k) hp))
      (parity_cases (get_or ws k 0) c)

pub power_other : (j k : ℕ) → (j ≡ k → ⊥) → digit j (2 ^ k) ≡ 0
power_other j k n =
    dite (dec_lt j k) (power_digit j k)
    (λ (m : j < k → ⊥). let wide : 2 ^ k < 2 ^ suc k = pow-lt (omega arith) in digit_past (suc k) (2 ^ k) j wide (omega arith))

-- the pivot's slot is dead too, and holds 0
pub gone_after : (c : ℕ) (ws : List ℕ) (k dead : ℕ) → parity (get_or ws k 0) c ≡ 1 → Gone dead ws → Gone (bit_xor dead (2 ^ k)) (cleared c (get_or ws k 0) ws)
gone_after c ws k dead odd g j h = dite (ℕ_discrete j k) here other
  where
    here : j ≡ k → get_or (cleared c (get_or ws k 0) ws) j 0 ≡ 0
    here e =
        ap (λ (i : ℕ). get_or (cleared c (get_or ws k 0) ws) i 0) e ∙ slot_odd c (get_or ws k 0) ws k odd ∙ xor_self (get_or ws k 0)

    other : (j ≡ k → ⊥) → get_or (cleared c (get_or ws k 0) ws) j 0 ≡ 0
    other n =
        let dead_before : digit j dead ≡ 1 =
        sym (digit_xor j dead (2 ^ k) ∙ plus_none (digit j dead) (digit j (2 ^ k)) (mod2_lt (dead / 2 ^ j)) (power_other j k n)) ∙ h in
        let none : get_or ws j 0 ≡ 0 = g j dead_before in
        slot_even c (get_or ws k 0) ws j (ap (λ (x : ℕ). parity x c) none ∙ parity_zero c) ∙ none

-- ---- the words turned in

-- the rows of the first i words
pub record Turning (ws rows : List ℕ) (i : ℕ) : Type 0 where
  pub inside : i ≤ min (length ws) 64
  pub turns : Turns (take i ws) rows

last_even : (l : List ℕ) (w y : ℕ) → parity w y ≡ 0 → parities (l ++ w ∷ []) y ≡ parities l y
unfolding parities
last_even [] w y h = omega arith
last_even (v ∷ l) w y h = ap (λ (x : ℕ). parity v y + 2 * x) (last_even l w y h)

last_odd : (l : List ℕ) (w y : ℕ) → parity w y ≡ 1 → parities (l ++ w ∷ []) y ≡ parities l y + 2 ^ length l
unfolding parities
last_odd [] w y h = omega arith
last_odd (v ∷ l) w y h = ap (λ (x : ℕ). parity v y + 2 * x) (last_odd l w y h) ∙ twice (parity v y) (parities l y) (length l)
  where
    twice : (p x n : ℕ) → p + 2 * (x + 2 ^ n) ≡ p + 2 * x + 2 ^ suc n
    twice p x n = omega arith

last_word : (l : List ℕ) (w y : ℕ) → bit_xor (parities l y) (parity w y * 2 ^ length l) ≡ parities (l ++ w ∷ []) y
last_word l w y =
    ⊎_elim
    (λ (e : parity w y ≡ 0).
    ap (λ (d : ℕ). bit_xor (parities l y) (d * 2 ^ length l)) e ∙ ap (bit_xor (parities l y)) (zero-mul (2 ^ length l))
    ∙ xor_zero_r (parities l y) ∙ sym (last_even l w y e))
    (λ (e : parity w y ≡ 1).
    ap (λ (d : ℕ). bit_xor (parities l y) (d * 2 ^ length l)) e ∙ xor_comm (parities l y) (1 * 2 ^ length l)
    ∙ xor_shifted 1 (length l) (parities l y) (parities_lt l y) ∙ one (parities l y) (2 ^ length l) ∙ sym (last_odd l w y e))
    (parity_cases w y)
  where
    one : (a b : ℕ) → 1 * b + a ≡ a + b
    one a b = omega arith

pub turning_start : (ws rows : List ℕ) → rows ≡ zeros 64 → Turning ws rows 0
unfolding parities
turning_start ws rows e =
    record {
      inside = omega arith;
      turns = record {
        long = ap length e ∙ length_zeros 64;
        each = λ b l. ap (λ (x : List ℕ). get_or x b 0) e ∙ get_or-replicate 64 b 0 0 l;
      };
    }

pub turning_turn : (ws rows rows' : List ℕ) (i : ℕ) → Turning ws rows i → i < min (length ws) 64
    → XoredInto rows rows' (get_or ws i 0) ((1 * 2 ^ i) % 18446744073709551616) → Turning ws rows' (i + 1)
turning_turn ws rows rows' i t h x =
    let bit = (1 * 2 ^ i) % 18446744073709551616 in
    let within : i < length ws = omega arith in
    let count : length (take i ws) ≡ i = length-take-le i ws (omega arith) in
    record {
      inside = omega arith;
      turns = record {
        long = x.long ∙ t.turns.long;
        each = λ b l.
            x.each b (omega (arith, t.turns.long))
            ∙ ap₂ (λ (r d : ℕ). bit_xor r (d * bit)) (t.turns.each b l) (sym (parity_comm (get_or ws i 0) (2 ^ b) ∙ parity_pow b (get_or ws i 0)))
            ∙ ap (λ (y : ℕ). bit_xor (parities (take i ws) (2 ^ b)) (parity (get_or ws i 0) (2 ^ b) * y)) (one_bit i (omega arith) ∙ ap (λ (n : ℕ). 2 ^ n) (sym count))
            ∙ last_word (take i ws) (get_or ws i 0) (2 ^ b)
            ∙ ap (λ (y : List ℕ). parities y (2 ^ b)) (sym (take-suc ws i 0 within) ∙ ap (λ (n : ℕ). take n ws) (sym (add-one i)));
      };
    }

pub turning_end : (ws rows : List ℕ) (i : ℕ) → Turning ws rows i → min (length ws) 64 ≤ i → Turns (take 64 ws) rows
turning_end ws rows i t h = subst (λ (x : List ℕ). Turns x rows) (dite (dec_lt i 64) short (λ (n : i < 64 → ⊥). ap (λ (k : ℕ). take k ws) (full n))) t.turns
  where
    full : (i < 64 → ⊥) → i ≡ 64
    full n = omega (arith, t.inside)

    short : i < 64 → take i ws ≡ take 64 ws
    short l = take_all i ws (omega arith) ∙ sym (take_all 64 ws (omega arith))
