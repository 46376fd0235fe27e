-- A clock undone. For a tap word with bit 0, and words without a bit at or above the width:
--
--   advanced_unclocked   a clock takes the unclocked word to the word
--   unclocked_lt         it has no bit at or above the width
--   later_earlier        .. and so for some clocks
--   earlier_lt           .. (the same)
--
-- A clock with all cells 0, or some of them, takes no two such words to one (later_one_to_one). And for any tap word a clock undone is linear:
-- 8 of them are a look-up of the lowest byte (earlier_eight). Assumes nothing.
use mathlib.Core.Path.{◌≡◌, refl, sym, ap, ap₂, ◌∙◌}
use mathlib.Core.List.{List, [], ◌∷◌, map}
use Prim.Native.Nat.{ℕ, zero, suc, ◌+◌, ◌-◌, ◌*◌, ◌/◌, ◌%◌, ◌^◌, ◌≤◌, ◌<◌}
use native.Mathlib.Omega.{arith}
use native.Mathlib.Numerals.{add-one}
use native.Mathlib.Nat.{add-zero, add-suc, pow-suc, mod-lt, mod_self, mod-eq_of_lt, div-one, div_self, mul-one, mul_comm, mul_assoc}
use lib.Bits.{bit_xor, xor_comm, xor_shifted, xor_shr, xor_zero_r, xor_lt}
use lib.ListN.{get_or, get_or-map}
use lib.Pow.{pow_pos, pow-lt}
use Rattle.word.specs.Word.{digit}
use Rattle.word.proofs.Laws.{mod2_lt, digit_xor, xor_cancel}
use Rattle.word.proofs.WordLaws.{xor_crosswise}
use Rattle.chains.specs.Driven.{chosen}
use Rattle.chains.proofs.Laws.{chosen_lt, chosen_xor}
use Rattle.register.specs.Circuit.{Circuit, circuit, advanced}
use Rattle.register.proofs.Laws.{advanced_xor, advanced_zero, advanced_lt, advanced_one_to_one}
use Rattle.signatures.specs.Later.{later}
use Rattle.word.proofs.LowestLaws.{digit_past}
use Rattle.unclocking.specs.Unclocked.{before_one, unclocked, earlier, EightBack}

-- the first of some clocks
later_first : (k : Circuit) (j w : ℕ) → later k (suc j) w ≡ later k j (advanced k.width k.taps w)
unfolding later
later_first k zero w = refl
later_first k (suc j) w = ap (advanced k.width k.taps) (later_first k j w)

-- a word from its lowest bit and the others
halves : (w : ℕ) → bit_xor (w / 2 * 2) (w % 2) ≡ w
halves w = let whole : w / 2 * 2 + w % 2 ≡ w = omega arith in xor_shifted (w / 2) 1 (w % 2) (mod2_lt w) ∙ whole

-- a clock takes a word whose highest bit is clear up by one place, and the highest bit alone to the tap word
advanced_half : (j t w : ℕ) → w < 2 ^ suc j → advanced (suc j) t (w / 2) ≡ w / 2 * 2
unfolding advanced
advanced_half j t w h =
    let low : w / 2 < 2 ^ j = omega (arith, pow-suc 2 j) in
    let less : w / 2 * 2 < 2 ^ suc j = omega arith in
    let top : suc j - 1 ≡ j = omega arith in
    ap₂ bit_xor (mod-eq_of_lt less) (ap (λ (x : ℕ). chosen (digit x (w / 2)) t) top ∙ ap (λ (d : ℕ). chosen d t) (digit_past j (w / 2) j low (omega arith)))
    ∙ xor_zero_r (w / 2 * 2)

advanced_top : (j t : ℕ) → advanced (suc j) t (2 ^ j) ≡ t
unfolding advanced
advanced_top j t =
    let top : suc j - 1 ≡ j = omega arith in
    let one : digit (suc j - 1) (2 ^ j) ≡ 1 = ap (λ (x : ℕ). digit x (2 ^ j)) top ∙ ap (λ (x : ℕ). x % 2) (div_self (pow_pos j)) in
    let none : 2 ^ j * 2 % 2 ^ suc j ≡ 0 = ap (λ (x : ℕ). x % 2 ^ suc j) (sym (pow-suc 2 j)) ∙ mod_self (2 ^ suc j) in
    ap₂ (λ (x d : ℕ). bit_xor x (chosen d t)) none one ∙ xor_comm 0 t ∙ xor_zero_r t

module _ (m t : ℕ) (some : 1 ≤ m) (odd : digit 0 t ≡ 1) (within : t < 2 ^ m) where
  width : m ≡ suc (m - 1)
  width = omega arith

  odd_taps : t % 2 ≡ 1
  odd_taps = ap (λ (x : ℕ). x % 2) (sym (div-one t)) ∙ odd

  half : (w : ℕ) → w < 2 ^ m → advanced m t (w / 2) ≡ w / 2 * 2
  half w h =
      ap (λ (x : ℕ). advanced x t (w / 2)) width ∙ advanced_half (m - 1) t w (rw (sym width) h)

  -- the state that a clock takes to 1
  to_one : advanced m t (before_one m t) ≡ 1
  unfolding before_one
  to_one =
      advanced_xor m t (t / 2) (2 ^ (m - 1))
      ∙ ap₂ bit_xor (half t within) (ap (λ (x : ℕ). advanced x t (2 ^ (m - 1))) width ∙ advanced_top (m - 1) t)
      ∙ ap (bit_xor (t / 2 * 2)) (sym (halves t) ∙ ap (bit_xor (t / 2 * 2)) odd_taps) ∙ xor_cancel (t / 2 * 2) 1

  lowest : (d : ℕ) → d < 2 → advanced m t (chosen d (before_one m t)) ≡ d
  lowest zero h = advanced_zero m t
  lowest (suc zero) h = to_one
  lowest (suc (suc d)) h = let z : ⊥ = omega arith in absurd z

  pub advanced_unclocked : (w : ℕ) → w < 2 ^ m → advanced m t (unclocked m t w) ≡ w
  unfolding unclocked
  advanced_unclocked w h =
      advanced_xor m t (w / 2) (chosen (w % 2) (before_one m t)) ∙ ap₂ bit_xor (half w h) (lowest (w % 2) (mod2_lt w)) ∙ halves w

  before_one_lt : before_one m t < 2 ^ m
  unfolding before_one
  before_one_lt = xor_lt m (t / 2) (2 ^ (m - 1)) (omega (arith, within)) (pow-lt (omega arith))

  pub unclocked_lt : (w : ℕ) → w < 2 ^ m → unclocked m t w < 2 ^ m
  unfolding unclocked
  unclocked_lt w h = xor_lt m (w / 2) (chosen (w % 2) (before_one m t)) (omega (arith, h)) (chosen_lt m (w % 2) (before_one m t) before_one_lt)

-- ---- a clock undone is linear, whatever the tap word is

low_xor : (a b : ℕ) → bit_xor a b % 2 ≡ (a % 2 + b % 2) % 2
low_xor a b = ap (λ (x : ℕ). x % 2) (sym (div-one (bit_xor a b))) ∙ digit_xor 0 a b ∙ ap₂ (λ (x y : ℕ). (x % 2 + y % 2) % 2) (div-one a) (div-one b)

unclocked_xor : (m t a b : ℕ) → unclocked m t (bit_xor a b) ≡ bit_xor (unclocked m t a) (unclocked m t b)
unfolding unclocked
unclocked_xor m t a b =
    ap₂ bit_xor (xor_shr a b 1)
    (ap (λ (d : ℕ). chosen d (before_one m t)) (low_xor a b) ∙ chosen_xor (a % 2) (b % 2) (before_one m t) (mod2_lt a) (mod2_lt b))
    ∙ xor_crosswise (a / 2) (b / 2) (chosen (a % 2) (before_one m t)) (chosen (b % 2) (before_one m t))

-- a word without its lowest bit moves down by one place
unclocked_double : (m t x : ℕ) → unclocked m t (x * 2) ≡ x
unfolding unclocked
unclocked_double m t x =
    let half : x * 2 / 2 ≡ x = omega arith in
    let even : x * 2 % 2 ≡ 0 = omega arith in
    ap₂ (λ (y d : ℕ). bit_xor y (chosen d (before_one m t))) half even ∙ xor_zero_r x

module _ (k : Circuit) where
  pub earlier_more : (j w : ℕ) → unclocked k.width k.taps (earlier k j w) ≡ earlier k (j + 1) w
  unfolding earlier
  earlier_more j w = sym (ap (λ (x : ℕ). earlier k x w) (add-one j))

  pub earlier_none : (w : ℕ) → w ≡ earlier k 0 w
  unfolding earlier
  earlier_none w = refl

  pub earlier_add : (i j w : ℕ) → earlier k j (earlier k i w) ≡ earlier k (i + j) w
  unfolding earlier
  earlier_add i zero w = ap (λ (x : ℕ). earlier k x w) (sym (add-zero i))
  earlier_add i (suc j) w = ap (unclocked k.width k.taps) (earlier_add i j w) ∙ ap (λ (x : ℕ). earlier k x w) (sym (add-suc i j))

  pub earlier_zero : (j : ℕ) → earlier k j 0 ≡ 0
  unfolding earlier
  earlier_zero zero = refl
  earlier_zero (suc j) = ap (unclocked k.width k.taps) (earlier_zero j) ∙ unclocked_double k.width k.taps 0

  earlier_xor : (j a b : ℕ) → earlier k j (bit_xor a b) ≡ bit_xor (earlier k j a) (earlier k j b)
  unfolding earlier
  earlier_xor zero a b = refl
  earlier_xor (suc j) a b =
      ap (unclocked k.width k.taps) (earlier_xor j a b) ∙ unclocked_xor k.width k.taps (earlier k j a) (earlier k j b)

  earlier_down : (j x : ℕ) → earlier k j (x * 2 ^ j) ≡ x
  unfolding earlier
  earlier_down zero x = mul-one x
  earlier_down (suc j) x =
      let up : x * 2 ^ suc j ≡ x * 2 * 2 ^ j = ap (λ (y : ℕ). x * y) (pow-suc 2 j ∙ mul_comm (2 ^ j) 2) ∙ sym (mul_assoc x 2 (2 ^ j)) in
      ap (λ (y : ℕ). unclocked k.width k.taps (earlier k j y)) up ∙ ap (unclocked k.width k.taps) (earlier_down j (x * 2))
      ∙ unclocked_double k.width k.taps x

  -- 8 clocks: the lowest byte from a table, and the bytes above it moved down
  pub earlier_eight : (w : ℕ) → bit_xor (w / 256) (earlier k 8 (w % 256)) ≡ earlier k 8 w
  earlier_eight w =
      let parts : bit_xor (w / 256 * 256) (w % 256) ≡ w = xor_shifted (w / 256) 8 (w % 256) (mod-lt w (pow_pos 8)) ∙ whole in
      ap (λ (y : ℕ). bit_xor y (earlier k 8 (w % 256))) (sym (earlier_down 8 (w / 256))) ∙ sym (earlier_xor 8 (w / 256 * 256) (w % 256))
      ∙ ap (earlier k 8) parts
    where
      whole : w / 256 * 256 + w % 256 ≡ w
      whole = omega arith

  pub eight_all : (table : List ℕ) → EightBack k table → (l : List ℕ) → map (λ w. bit_xor (w / 256) (get_or table (w % 256) 0)) l ≡ map (earlier k 8) l
  eight_all table right [] = refl
  eight_all table right (w ∷ l) =
      ap₂ ◌∷◌ (ap (bit_xor (w / 256)) (right (w % 256) (mod-lt w (pow_pos 8))) ∙ earlier_eight w) (eight_all table right l)

-- neither the inversion word nor the spread words matter
pub earlier_same : (m t v : ℕ) (ws : List ℕ) (j w : ℕ) → earlier (circuit m t 0 []) j w ≡ earlier (circuit m t v ws) j w
unfolding earlier
earlier_same m t v ws zero w = refl
earlier_same m t v ws (suc j) w = ap (unclocked m t) (earlier_same m t v ws j w)

pub earlier_words_same : (m t v : ℕ) (ws : List ℕ) (j : ℕ) (l : List ℕ) → map (earlier (circuit m t 0 []) j) l ≡ map (earlier (circuit m t v ws) j) l
earlier_words_same m t v ws j [] = refl
earlier_words_same m t v ws j (w ∷ l) = ap₂ ◌∷◌ (earlier_same m t v ws j w) (earlier_words_same m t v ws j l)

pub eight_back_same : (m t v : ℕ) (ws l : List ℕ) → EightBack (circuit m t 0 []) l → EightBack (circuit m t v ws) l
eight_back_same m t v ws l right x h = right x h ∙ earlier_same m t v ws 8 x

-- one clock more in the loop over them, where `one` is what a clock takes to 1
pub earlier_turns : (m t one i w x x' : ℕ) → one ≡ before_one m t → x ≡ earlier (circuit m t 0 []) i w → x' ≡ bit_xor (x / 2) (chosen (x % 2) one)
    → x' ≡ earlier (circuit m t 0 []) (i + 1) w
unfolding unclocked
earlier_turns m t one i w x x' eo ex e =
    e ∙ ap (λ (o : ℕ). bit_xor (x / 2) (chosen (x % 2) o)) eo ∙ ap (unclocked m t) ex ∙ earlier_more (circuit m t 0 []) i w

-- the numbers 0 to 255, each 8 clocks earlier
pub bytes_earlier : (k : Circuit) (l l' : List ℕ) → ((x : ℕ) → x < 256 → get_or l x 0 ≡ x) → l' ≡ map (earlier k 8) l → EightBack k l'
bytes_earlier k l l' right e x h =
    ap (λ (y : List ℕ). get_or y x 0) e ∙ ap (get_or (map (earlier k 8) l) x) (sym (earlier_zero k 8)) ∙ get_or-map (earlier k 8) l x 0
    ∙ ap (earlier k 8) (right x h)

module _ (k : Circuit) (some : 1 ≤ k.width) (odd : digit 0 k.taps ≡ 1) (within : k.taps < 2 ^ k.width) where
  pub earlier_lt : (j w : ℕ) → w < 2 ^ k.width → earlier k j w < 2 ^ k.width
  unfolding earlier
  earlier_lt zero w h = h
  earlier_lt (suc j) w h = unclocked_lt k.width k.taps some odd within (earlier k j w) (earlier_lt j w h)

  pub later_earlier : (j w : ℕ) → w < 2 ^ k.width → later k j (earlier k j w) ≡ w
  unfolding earlier later
  later_earlier zero w h = refl
  later_earlier (suc j) w h =
      later_first k j (unclocked k.width k.taps (earlier k j w))
      ∙ ap (later k j) (advanced_unclocked k.width k.taps some odd within (earlier k j w) (earlier_lt j w h)) ∙ later_earlier j w h

  pub later_lt : (j w : ℕ) → w < 2 ^ k.width → later k j w < 2 ^ k.width
  unfolding later
  later_lt zero w h = h
  later_lt (suc j) w h = advanced_lt k.width k.taps (later k j w) within

  pub later_one_to_one : (j a b : ℕ) → a < 2 ^ k.width → b < 2 ^ k.width → later k j a ≡ later k j b → a ≡ b
  unfolding later
  later_one_to_one zero a b ha hb e = e
  later_one_to_one (suc j) a b ha hb e =
      later_one_to_one j a b ha hb
      (advanced_one_to_one k.width k.taps (later k j a) (later k j b) some odd (later_lt j a ha) (later_lt j b hb) e)
