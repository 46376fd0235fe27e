-- Up to 8 clocks at once, of a register of at least 8 bits; its tap word and the words may have bits at or above the width:
--
--   looked_later   a word moved up, with what is looked up for the bits that leave the width, is the word some clocks later
--   entry_few      .. by one table for every number of clocks: bits that stand lower take some clocks to the top, where nothing comes back
--   table_starts, table_turns, table_ends   the table made by doubling
--   eights_on      words that are looked up for 8 clocks at the last of eight are the words after whole eights of clocks
--
-- Assumes nothing.
use mathlib.Core.Path.{◌≡◌, refl, sym, ap, ap₂, ◌∙◌, subst}
use mathlib.Core.Bool.{Bool, true, false, cond}
use mathlib.Core.Logic.{dite}
use mathlib.Core.List.{List, [], ◌∷◌, map}
use Prim.Native.Nat.{ℕ, zero, suc, ◌+◌, ◌-◌, ◌*◌, ◌/◌, ◌%◌, ◌^◌, ◌≤◌, ◌<◌, min}
use native.Mathlib.Omega.{arith}
use borrow.Author.Tests.{eqb-true, eqb-false, eq-eqb, ne_eqb}
use lib.Dec.{eqb}
use native.Mathlib.Decide.{dec_lt}
use native.Mathlib.Numerals.{add-one}
use native.Mathlib.Nat.{pow-suc, mod-lt, mod_self, mod-eq_of_lt, div_self, one-mul, zero-mul, mul-one, mul_comm, mul_assoc, mul-mod_left, lt_of_lt_of_le}
use lib.Bits.{bit_xor, bit_and, xor_comm, xor_shifted, xor_zero_r, xor_zero_l, and_mask, and_le_r}
use lib.ListN.{length, get_or}
use lib.Pow.{pow_pos, pow-add, pow_mono, pow-lt, shl_lt, shl-shr, split, mod-pow-add, mod-mod-pow}
use Rattle.word.specs.Word.{digit, low_mask}
use Rattle.word.specs.Zeros.{zeros}
use Rattle.word.specs.Doubled.{Doubled}
use Rattle.word.proofs.LowestLaws.{digit_past}
use Rattle.word.proofs.WordLaws.{xor_scaled}
use Rattle.chains.specs.Driven.{chosen}
use Rattle.register.specs.Circuit.{Circuit, circuit, advanced}
use Rattle.signatures.specs.Later.{later}
use Rattle.powers.proofs.PowerLaws.{later_zero, later_xor, later_add, later_same}
use Rattle.eight_clocks.specs.Eight.{EightOn, looked_on}

-- ---- one clock: bits that stay only move up, bits at or above the width are gone, and the highest bit alone is the tap word

top_power : (m : ℕ) → 1 ≤ m → 2 ^ m ≡ 2 ^ (m - 1) * 2
top_power m some = let width : m ≡ suc (m - 1) = omega arith in ap (λ (x : ℕ). 2 ^ x) width ∙ pow-suc 2 (m - 1)

advanced_up : (m t x : ℕ) → 1 ≤ m → x * 2 < 2 ^ m → advanced m t x ≡ x * 2
unfolding advanced
advanced_up m t x some h =
    let under : x < 2 ^ (m - 1) = omega (arith, top_power m some) in
    ap₂ bit_xor (mod-eq_of_lt h) (ap (λ (d : ℕ). chosen d t) (digit_past (m - 1) x (m - 1) under (omega arith))) ∙ xor_zero_r (x * 2)

advanced_past : (m t h : ℕ) → 1 ≤ m → advanced m t (h * 2 ^ m) ≡ 0
unfolding advanced
advanced_past m t h some =
    let twice : h * 2 ^ m * 2 ≡ h * 2 * 2 ^ m = mul_assoc h (2 ^ m) 2 ∙ ap (λ (x : ℕ). h * x) (mul_comm (2 ^ m) 2) ∙ sym (mul_assoc h 2 (2 ^ m)) in
    let half : h * 2 ^ m ≡ h * 2 * 2 ^ (m - 1) =
    ap (λ (x : ℕ). h * x) (top_power m some ∙ mul_comm (2 ^ (m - 1)) 2) ∙ sym (mul_assoc h 2 (2 ^ (m - 1))) in
    let even : h * 2 % 2 ≡ 0 = omega arith in
    let clear : digit (m - 1) (h * 2 ^ m) ≡ 0 =
    ap (digit (m - 1)) half ∙ ap (λ (x : ℕ). x % 2) (shl-shr (h * 2) (m - 1)) ∙ even in
    ap₂ (λ (x d : ℕ). bit_xor x (chosen d t)) (ap (λ (x : ℕ). x % 2 ^ m) twice ∙ mul-mod_left (h * 2) (2 ^ m)) clear

advanced_top : (m t : ℕ) → 1 ≤ m → advanced m t (2 ^ (m - 1)) ≡ t
unfolding advanced
advanced_top m t some =
    let one : digit (m - 1) (2 ^ (m - 1)) ≡ 1 = ap (λ (x : ℕ). x % 2) (div_self (pow_pos (m - 1))) in
    let none : 2 ^ (m - 1) * 2 % 2 ^ m ≡ 0 = ap (λ (x : ℕ). x % 2 ^ m) (sym (top_power m some)) ∙ mod_self (2 ^ m) in
    ap₂ (λ (x d : ℕ). bit_xor x (chosen d t)) none one ∙ xor_zero_l t

-- ---- some clocks

module _ (k : Circuit) (wide : 8 ≤ k.width) where
  abbrev m : ℕ
  m = k.width

  later_up : (j x : ℕ) → j ≤ m → x < 2 ^ (m - j) → later k j x ≡ x * 2 ^ j
  unfolding later
  later_up zero x hj h = sym (mul-one x)
  later_up (suc j) x hj h =
      let more : m - suc j ≤ m - j = omega arith in
      let sum : m - suc j + suc j ≡ m = omega arith in
      let up : x * 2 ^ suc j ≡ x * 2 ^ j * 2 = ap (λ (y : ℕ). x * y) (pow-suc 2 j) ∙ sym (mul_assoc x (2 ^ j) 2) in
      let less : x * 2 ^ suc j < 2 ^ m = subst (λ (y : ℕ). x * 2 ^ suc j < 2 ^ y) sum (shl_lt (m - suc j) (suc j) h) in
      ap (advanced k.width k.taps) (later_up j x (omega arith) (lt_of_lt_of_le h (pow_mono more)))
      ∙ advanced_up k.width k.taps (x * 2 ^ j) (omega arith) (subst (λ (y : ℕ). y < 2 ^ m) up less) ∙ sym up

  later_past : (i h : ℕ) → later k (suc i) (h * 2 ^ m) ≡ 0
  unfolding later
  later_past zero h = advanced_past k.width k.taps h (omega arith)
  later_past (suc i) h = ap (advanced k.width k.taps) (later_past i h) ∙ later_zero k 1

  -- the table's entry for the j bits that leave the register with j clocks
  entry_few : (j x : ℕ) → j ≤ 8 → x < 2 ^ j → later k 8 (x * 2 ^ (m - 8)) ≡ later k j (x * 2 ^ (m - j))
  entry_few j x hj h =
      let all : 8 ≡ 8 - j + j = omega arith in
      let room : j + (m - 8) ≡ m - (8 - j) = omega arith in
      let place : m - 8 + (8 - j) ≡ m - j = omega arith in
      ap (λ (n : ℕ). later k n (x * 2 ^ (m - 8))) all ∙ later_add k (8 - j) j (x * 2 ^ (m - 8))
      ∙ ap (later k j)
      (later_up (8 - j) (x * 2 ^ (m - 8)) (omega arith) (subst (λ (y : ℕ). x * 2 ^ (m - 8) < 2 ^ y) room (shl_lt j (m - 8) h))
      ∙ mul_assoc x (2 ^ (m - 8)) (2 ^ (8 - j)) ∙ ap (λ (y : ℕ). x * y) (sym (pow-add 2 (m - 8) (8 - j)) ∙ ap (λ (y : ℕ). 2 ^ y) place))

  -- a word from its bits at or above the width, the j highest in it, and the others
  module _ (w j : ℕ) (hj : j ≤ m) where
    parts : bit_xor (w / 2 ^ m * 2 ^ m) (bit_xor (w / 2 ^ (m - j) % 2 ^ j * 2 ^ (m - j)) (w % 2 ^ (m - j))) ≡ w
    parts =
        let sum : j + (m - j) ≡ m = omega arith in
        ap (bit_xor (w / 2 ^ m * 2 ^ m))
        (xor_shifted (w / 2 ^ (m - j) % 2 ^ j) (m - j) (w % 2 ^ (m - j)) (mod-lt w (pow_pos (m - j))) ∙ sym (mod-pow-add w j (m - j))
        ∙ ap (λ (y : ℕ). w % 2 ^ y) sum)
        ∙ xor_shifted (w / 2 ^ m) m (w % 2 ^ m) (mod-lt w (pow_pos m)) ∙ split w m

    moved : w * 2 ^ j % 2 ^ m ≡ w % 2 ^ (m - j) * 2 ^ j
    moved =
        let sum : m ≡ m - j + j = omega arith in
        let plain : w % 2 ^ (m - j) * 2 ^ j + 0 ≡ w % 2 ^ (m - j) * 2 ^ j = omega arith in
        ap (λ (y : ℕ). w * 2 ^ j % 2 ^ y) sum ∙ mod-pow-add (w * 2 ^ j) (m - j) j
        ∙ ap₂ (λ (x y : ℕ). x % 2 ^ (m - j) * 2 ^ j + y) (shl-shr w j) (mul-mod_left w (2 ^ j)) ∙ plain

  pub looked_later : (l : List ℕ) → EightOn k l → (j w : ℕ) → j ≤ 8 → looked_on k.width l j w ≡ later k j w
  unfolding looked_on later
  looked_later l right zero w hj = refl
  looked_later l right (suc i) w hj =
      let j = suc i in
      let x = w / 2 ^ (m - j) % 2 ^ j in
      let small : x < 2 ^ j = mod-lt (w / 2 ^ (m - j)) (pow_pos j) in
      let out : get_or l x 0 ≡ later k j (x * 2 ^ (m - j)) = right x (lt_of_lt_of_le small (pow_mono hj)) ∙ entry_few j x hj small in
      let stay : w * 2 ^ j % 2 ^ m ≡ later k j (w % 2 ^ (m - j)) =
      moved w j (omega arith) ∙ sym (later_up j (w % 2 ^ (m - j)) (omega arith) (mod-lt w (pow_pos (m - j)))) in
      ap₂ bit_xor stay out ∙ xor_comm (later k j (w % 2 ^ (m - j))) (later k j (x * 2 ^ (m - j)))
      ∙ sym (xor_zero_l (bit_xor (later k j (x * 2 ^ (m - j))) (later k j (w % 2 ^ (m - j)))))
      ∙ ap₂ bit_xor (sym (later_past i (w / 2 ^ m))) (sym (later_xor k j (x * 2 ^ (m - j)) (w % 2 ^ (m - j))))
      ∙ sym (later_xor k j (w / 2 ^ m * 2 ^ m) (bit_xor (x * 2 ^ (m - j)) (w % 2 ^ (m - j)))) ∙ ap (later k j) (parts w j (omega arith))

  pub looked_all : (l : List ℕ) → EightOn k l → (j : ℕ) → j ≤ 8 → (ws : List ℕ) → map (looked_on k.width l j) ws ≡ map (later k j) ws
  looked_all l right j hj [] = refl
  looked_all l right j hj (w ∷ ws) = ap₂ ◌∷◌ (looked_later l right j w hj) (looked_all l right j hj ws)

-- neither the inversion word nor the spread words matter to the table
pub eight_on_same : (m t v : ℕ) (ws l : List ℕ) → EightOn (circuit m t 0 []) l → EightOn (circuit m t v ws) l
eight_on_same m t v ws l right x h = right x h ∙ later_same m t v ws 8 (x * 2 ^ (m - 8))

-- ---- what a turn of the loops over the words stores

masked_up : (m j w mask : ℕ) → mask ≡ low_mask m → bit_and (w * 2 ^ j % 2 ^ 64) mask ≡ w * 2 ^ j % 2 ^ min m 64
unfolding low_mask
masked_up m j w mask e =
    let sum : 64 ≡ 64 - min m 64 + min m 64 = omega arith in
    ap (bit_and (w * 2 ^ j % 2 ^ 64)) e ∙ and_mask (w * 2 ^ j % 2 ^ 64) (min m 64) ∙ ap (λ (y : ℕ). w * 2 ^ j % 2 ^ y % 2 ^ min m 64) sum
    ∙ mod-mod-pow (w * 2 ^ j) (64 - min m 64) (min m 64)

pub eight_stored : (m w mask down : ℕ) (l : List ℕ) → mask ≡ low_mask m → down ≡ min m 64 - 8
    → bit_xor (bit_and (w * 2 ^ 8 % 2 ^ 64) mask) (get_or l (w / 2 ^ down % 256) 0) ≡ looked_on (min m 64) l 8 w
unfolding looked_on
eight_stored m w mask down l em ed = ap₂ (λ (x y : ℕ). bit_xor x (get_or l (w / 2 ^ y % 256) 0)) (masked_up m 8 w mask em) ed

few_out : (j x out : ℕ) → j < 8 → out ≡ low_mask j → bit_and x out ≡ x % 2 ^ j
unfolding low_mask
few_out j x out h e =
    let small : min j 64 ≡ j = omega arith in ap (bit_and x) (e ∙ ap (λ (y : ℕ). 2 ^ y - 1) small) ∙ and_mask x j

pub few_stored : (m j w mask out down : ℕ) (l : List ℕ) → (j ≡ 0 → ⊥) → j < 8 → mask ≡ low_mask m → out ≡ low_mask j → down ≡ min m 64 - j
    → bit_xor (bit_and (w * 2 ^ j % 2 ^ 64) mask) (get_or l (bit_and (w / 2 ^ down) out) 0) ≡ looked_on (min m 64) l j w
unfolding looked_on
few_stored m zero w mask out down l some few em eo ed = absurd (some refl)
few_stored m (suc i) w mask out down l some few em eo ed =
    ap₂ (λ (x y : ℕ). bit_xor x (get_or l y 0)) (masked_up m (suc i) w mask em)
    (few_out (suc i) (w / 2 ^ down) out few eo ∙ ap (λ (y : ℕ). w / 2 ^ y % 2 ^ suc i) ed)

-- an entry of the table
pub out_small : (j x out : ℕ) → j < 8 → out ≡ low_mask j → bit_and x out < 256
unfolding low_mask
out_small j x out h e =
    let small : min j 64 ≤ 7 = omega arith in
    let most : 2 ^ min j 64 ≤ 2 ^ 7 = pow_mono small in
    omega (arith, and_le_r x out)

-- no clock leaves the words as they are
pub looked_none : (m : ℕ) (l : List ℕ) (j : ℕ) → j ≡ 0 → (ws : List ℕ) → ws ≡ map (looked_on m l j) ws
unfolding looked_on
looked_none m l zero e [] = refl
looked_none m l zero e (w ∷ ws) = ap (λ (x : List ℕ). w ∷ x) (looked_none m l zero e ws)
looked_none m l (suc j) e ws = let z : ⊥ = omega arith in absurd z

-- .. and where the table is a register's
pub looked_words : (m j : ℕ) (l ws : List ℕ) → j ≤ 8 → (k : Circuit) → k.width ≡ min m 64 → 8 ≤ k.width → EightOn k l
    → map (looked_on (min m 64) l j) ws ≡ map (later k j) ws
looked_words m j l ws h k e wide right = ap (λ (x : ℕ). map (looked_on x l j) ws) (sym e) ∙ looked_all k wide l right j h ws

-- ---- the table, by doubling

-- the entries for the bytes below 2 ^ i are right, and `bit` is what bit i of a byte gives
pub record Made (k : Circuit) (table : List ℕ) (bit i : ℕ) : Type 0 where
  pub right : (x : ℕ) → x < 2 ^ i → get_or table x 0 ≡ later k 8 (x * 2 ^ (k.width - 8))
  pub next : bit ≡ later k (suc i) (2 ^ (k.width - 1))

pub one_shifted : (i : ℕ) → i < 64 → (1 * 2 ^ i) % 18446744073709551616 ≡ 2 ^ i
one_shifted i h = ap (λ (x : ℕ). x % 2 ^ 64) (one-mul (2 ^ i)) ∙ mod-eq_of_lt (pow-lt h)

pub table_room : (table : List ℕ) (i : ℕ) → i < 8 → length table ≡ 256
    → 0 + (1 * 2 ^ i) % 18446744073709551616 + (1 * 2 ^ i) % 18446744073709551616 ≤ length table
table_room table i h long =
    let few : i ≤ 7 = omega arith in
    let small : 2 ^ i ≤ 2 ^ 7 = pow_mono few in
    omega (arith, one_shifted i (omega arith))

module _ (k : Circuit) (wide : 8 ≤ k.width) where
  pub table_starts : (table : List ℕ) (bit : ℕ) → table ≡ zeros 256 → bit ≡ k.taps → Made k table bit 0
  unfolding later
  table_starts table bit et eb =
      record {
        right = λ x h.
            let first : x ≡ 0 = omega arith in
            ap₂ (λ (l : List ℕ) (y : ℕ). get_or l y 0) et first ∙ sym (ap (λ (y : ℕ). later k 8 (y * 2 ^ (k.width - 8))) first ∙ ap (later k 8) (zero-mul (2 ^ (k.width - 8))) ∙ later_zero k 8);
        next = eb ∙ sym (advanced_top k.width k.taps (omega arith));
      }

  -- what bit i of a byte gives
  bit_entry : (i : ℕ) → i < 8 → later k 8 (2 ^ i * 2 ^ (k.width - 8)) ≡ later k (suc i) (2 ^ (k.width - 1))
  bit_entry i h =
      let more : i < suc i = omega arith in
      let top : i + (k.width - suc i) ≡ k.width - 1 = omega arith in
      entry_few k wide (suc i) (2 ^ i) h (pow-lt more)
      ∙ ap (later k (suc i)) (sym (pow-add 2 i (k.width - suc i)) ∙ ap (λ (y : ℕ). 2 ^ y) top)

  -- entry 2 ^ i + j, for j below 2 ^ i
  entry_next : (i j : ℕ) → j < 2 ^ i → later k 8 ((2 ^ i + j) * 2 ^ (k.width - 8)) ≡ bit_xor (later k 8 (j * 2 ^ (k.width - 8))) (later k 8 (2 ^ i * 2 ^ (k.width - 8)))
  entry_next i j h =
      let n = k.width - 8 in
      let one : 2 ^ i + j ≡ bit_xor (2 ^ i) j =
      ap (λ (x : ℕ). x + j) (sym (one-mul (2 ^ i))) ∙ sym (xor_shifted 1 i j h) ∙ ap (λ (x : ℕ). bit_xor x j) (one-mul (2 ^ i)) in
      ap (λ (x : ℕ). later k 8 (x * 2 ^ n)) one ∙ ap (later k 8) (xor_scaled n (2 ^ i) j) ∙ later_xor k 8 (2 ^ i * 2 ^ n) (j * 2 ^ n)
      ∙ xor_comm (later k 8 (2 ^ i * 2 ^ n)) (later k 8 (j * 2 ^ n))

  pub table_turns : (table made : List ℕ) (bit bit' i : ℕ) → i < 8 → Made k table bit i
      → Doubled table made 0 ((1 * 2 ^ i) % 18446744073709551616) ((1 * 2 ^ i) % 18446744073709551616) bit
      → bit' ≡ advanced k.width k.taps bit → Made k made bit' (i + 1)
  unfolding later
  table_turns table made bit bit' i h m d eb =
      record {
        right = λ x l.
            dite (dec_lt x (2 ^ i)) (λ (z : x < 2 ^ i). d'.below x (omega arith) ∙ m.right x z)
            (λ (z : x < 2 ^ i → ⊥). new x (omega arith) (omega (arith, twice, l)));
        next = eb ∙ ap (advanced k.width k.taps) m.next ∙ ap (λ (x : ℕ). later k (suc x) (2 ^ (k.width - 1))) (sym (add-one i));
      }
    where
      d' : Doubled table made 0 (2 ^ i) (2 ^ i) bit
      d' = subst (λ (x : ℕ). Doubled table made 0 x x bit) (one_shifted i (omega arith)) d

      twice : 2 ^ (i + 1) ≡ 2 ^ i * 2
      twice = ap (λ (x : ℕ). 2 ^ x) (add-one i) ∙ pow-suc 2 i

      new : (x : ℕ) → 2 ^ i ≤ x → x < 2 ^ i + 2 ^ i → get_or made x 0 ≡ later k 8 (x * 2 ^ (k.width - 8))
      new x a b =
          let sum : 2 ^ i + (x - 2 ^ i) ≡ x = omega arith in
          d'.new x (omega arith) (omega arith) ∙ ap₂ bit_xor (m.right (x - 2 ^ i) (omega arith)) (m.next ∙ sym (bit_entry i h))
          ∙ sym (entry_next i (x - 2 ^ i) (omega arith)) ∙ ap (λ (y : ℕ). later k 8 (y * 2 ^ (k.width - 8))) sum

  pub table_ends : (table : List ℕ) (bit i : ℕ) → i ≡ 8 → Made k table bit i → EightOn k table
  table_ends table bit i e m = (subst (Made k table bit) e m).right

-- ---- whole eights of clocks

pub later_twice : (k : Circuit) (i j : ℕ) (ws : List ℕ) → map (later k j) (map (later k i) ws) ≡ map (later k (i + j)) ws
later_twice k i j [] = refl
later_twice k i j (w ∷ ws) = ap₂ ◌∷◌ (sym (later_add k i j w)) (later_twice k i j ws)

-- words after the whole eights of n clocks, and then of one clock more: looked up where it is the last of eight
module _ (k : Circuit) (wide : 8 ≤ k.width) (table : List ℕ) (right : EightOn k table) where
  pub eights_on : (n : ℕ) (spread ws ws' : List ℕ) → ws ≡ map (later k (8 * (n / 8))) spread
      → ws' ≡ cond (eqb (n % 8) 7) (map (looked_on k.width table 8) ws) ws → ws' ≡ map (later k (8 * (suc n / 8))) spread
  eights_on n spread ws ws' ew e = go (eqb (n % 8) 7) refl
    where
      go : (b : Bool) → eqb (n % 8) 7 ≡ b → ws' ≡ map (later k (8 * (suc n / 8))) spread
      go true h =
          let last : n % 8 ≡ 7 = eqb-true (n % 8) 7 h in
          let more : 8 * (n / 8) + 8 ≡ 8 * (suc n / 8) = omega arith in
          e ∙ ap (λ (b : Bool). cond b (map (looked_on k.width table 8) ws) ws) h ∙ looked_all k wide table right 8 (omega arith) ws
          ∙ ap (map (later k 8)) ew ∙ later_twice k (8 * (n / 8)) 8 spread ∙ ap (λ (j : ℕ). map (later k j) spread) more
      go false h =
          let other : n % 8 ≡ 7 → ⊥ = eqb-false (n % 8) 7 h in
          let same : 8 * (n / 8) ≡ 8 * (suc n / 8) = omega (arith, other) in
          e ∙ ap (λ (b : Bool). cond b (map (looked_on k.width table 8) ws) ws) h ∙ ew ∙ ap (λ (j : ℕ). map (later k j) spread) same

-- the test for the last of eight
pub looked_up_lem : (t : ℕ) (vs ws : List ℕ) → t % 8 ≡ 7 → vs ≡ cond (eqb (t % 8) 7) vs ws
looked_up_lem t vs ws h = sym (ap (λ (b : Bool). cond b vs ws) (eq-eqb (t % 8) 7 h))

pub left_alone : (t : ℕ) (vs ws : List ℕ) → (t % 8 ≡ 7 → ⊥) → ws ≡ cond (eqb (t % 8) 7) vs ws
left_alone t vs ws h = sym (ap (λ (b : Bool). cond b vs ws) (ne_eqb (t % 8) 7 h))
