-- The clock seen from the words' side, what is left of a word by others, and words whose XORs are closed under the clock. Assumes nothing.
use mathlib.Core.Path.{◌≡◌, refl, sym, ap, ap₂, ◌∙◌}
use mathlib.Core.Bool.{true}
use mathlib.Core.Logic.{⊎_elim, dite}
use mathlib.Core.List.{List, [], ◌∷◌}
use Prim.Native.Nat.{ℕ, zero, suc, ◌+◌, ◌-◌, ◌*◌, ◌/◌, ◌%◌, ◌^◌, ◌≤◌, ◌<◌, min}
use native.Mathlib.Nat.{mod-eq_of_lt, lt_of_le_of_lt, mod-lt, zero-mul, one-mul}
use native.Mathlib.Decide.{dec_lt, ℕ_discrete}
use native.Mathlib.Omega.{arith}
use lib.Bits.{bit_xor, bit_and, and_step, and_comm, and_le_r, and_mod, and_mask}
use lib.Count.{ones, ones_step}
use lib.ListN.{length, get_or, set, get_or-replicate, get_or-eq_default}
use lib.Seq.{get_or-set_same, get_or-set_other}
use lib.Pow.{pow_pos}
use Rattle.word.specs.Word.{digit, low_mask, parity, highest_bit}
use Rattle.word.specs.Span.{xor_below}
use Rattle.word.specs.Marked.{xor_marked}
use Rattle.word.specs.Zeros.{zeros}
use Rattle.word.proofs.XorLaws.{xor_below_none, xor_below_suc}
use Rattle.word.proofs.FrontLaws.{length_zeros}
use Rattle.word.proofs.Laws.{bit_cases, mod2_lt, parity_lt, parity_cases, parity_comm, parity_zero, parity_xor, parity_xor_right, parity_pow}
use Rattle.combinations.specs.Combination.{x_free}
use Rattle.combinations.proofs.XFree.{x_free_head, x_free_tail}
use Rattle.parity_table.proofs.SkipLaws.{x_free_all}
use Rattle.chains.specs.Driven.{chosen}
use Rattle.register.specs.Circuit.{circuit, advanced}
use Rattle.signatures.specs.Later.{later}
use Rattle.closed_words.specs.Closed.{EvenAll, ClosedUnder}

-- ---- the shift

low_mod : (m y : ℕ) → y % 2 ^ m % 2 ^ m ≡ y % 2 ^ m
low_mod m y = mod-eq_of_lt (mod-lt y (pow_pos m))

and_low : (m a y : ℕ) → bit_and a (y % 2 ^ m) ≡ bit_and a y % 2 ^ m
and_low m a y =
    let below : bit_and a (y % 2 ^ m) < 2 ^ m = lt_of_le_of_lt (and_le_r a (y % 2 ^ m)) (mod-lt y (pow_pos m)) in
    sym (mod-eq_of_lt below) ∙ and_mod a (y % 2 ^ m) m ∙ ap (bit_and (a % 2 ^ m)) (low_mod m y) ∙ sym (and_mod a y m)

and_double : (a x : ℕ) → bit_and a (x * 2) ≡ bit_and (a / 2) x * 2
and_double a x =
    let half : x * 2 / 2 ≡ x = omega arith in
    let low : min (a % 2) (x * 2 % 2) ≡ 0 = omega arith in
    and_step a (x * 2) ∙ ap₂ (λ (y z : ℕ). bit_and (a / 2) y * 2 + z) half low ∙ omega arith

ones_double : (n : ℕ) → ones (n * 2) ≡ ones n
ones_double n =
    let half : n * 2 / 2 ≡ n = omega arith in
    omega (arith, ones_step (n * 2), ap ones half)

-- w shares with the shifted word, below place m, what its own bits below m, one place lower, share with the word
shifted_parity : (m w x : ℕ) → parity w (x * 2 % 2 ^ m) ≡ parity (w % 2 ^ m / 2) x
unfolding parity
shifted_parity m w x =
    let moved : bit_and w (x * 2 % 2 ^ m) ≡ bit_and (w % 2 ^ m / 2) x * 2 =
    and_low m w (x * 2) ∙ ap (λ (y : ℕ). y % 2 ^ m) (and_comm w (x * 2)) ∙ sym (and_low m (x * 2) w) ∙ and_comm (x * 2) (w % 2 ^ m)
    ∙ and_double (w % 2 ^ m) x
    in ap (λ (y : ℕ). y % 2) (ap ones moved ∙ ones_double (bit_and (w % 2 ^ m / 2) x))

-- ---- the feedback

not_chosen : (p i x : ℕ) → digit i x ≡ 0 → parity (chosen p (2 ^ i)) x ≡ 0
not_chosen zero i x h = parity_zero x
not_chosen (suc p) i x h = parity_pow i x ∙ h

fed_parity : (w t i x : ℕ) → parity w (chosen (digit i x) t) ≡ parity (chosen (parity w t) (2 ^ i)) x
fed_parity w t i x = ⊎_elim clear full (bit_cases (digit i x) (mod2_lt (x / 2 ^ i)))
  where
    clear : digit i x ≡ 0 → parity w (chosen (digit i x) t) ≡ parity (chosen (parity w t) (2 ^ i)) x
    clear z =
        ap (λ (d : ℕ). parity w (chosen d t)) z ∙ parity_comm w 0 ∙ parity_zero w ∙ sym (not_chosen (parity w t) i x z)

    full : digit i x ≡ 1 → parity w (chosen (digit i x) t) ≡ parity (chosen (parity w t) (2 ^ i)) x
    full o =
        ap (λ (d : ℕ). parity w (chosen d t)) o
        ∙ ⊎_elim (λ (p : parity w t ≡ 0). p ∙ sym (ap (λ (d : ℕ). parity (chosen d (2 ^ i)) x) p ∙ parity_zero x))
        (λ (p : parity w t ≡ 1). p ∙ sym (ap (λ (d : ℕ). parity (chosen d (2 ^ i)) x) p ∙ parity_pow i x ∙ o)) (parity_cases w t)

-- ---- the clock

clock_parity : (m t w x : ℕ) → parity w (advanced m t x) ≡ parity (bit_xor (w % 2 ^ m / 2) (chosen (parity w t) (2 ^ (m - 1)))) x
unfolding advanced
clock_parity m t w x =
    parity_xor_right w (x * 2 % 2 ^ m) (chosen (digit (m - 1) x) t)
    ∙ ap₂ (λ (a b : ℕ). (a + b) % 2) (shifted_parity m w x) (fed_parity w t (m - 1) x)
    ∙ sym (parity_xor (w % 2 ^ m / 2) (chosen (parity w t) (2 ^ (m - 1))) x)

top_place : (n : ℕ) → (2 ^ n - 1) / 2 + 1 ≡ 2 ^ (n - 1)
top_place zero = refl
top_place (suc n) =
    let back : suc n - 1 ≡ n = omega arith in
    let half : (2 ^ suc n - 1) / 2 + 1 ≡ 2 ^ n = omega (arith, pow_pos n) in
    half ∙ ap (λ (i : ℕ). 2 ^ i) (sym back)

-- what the code makes of a word
pub clock_transposed : (m t w mask p feedback : ℕ) → mask ≡ low_mask m → p ≡ parity w t → feedback ≡ chosen p (mask / 2 + 1)
    → (x : ℕ) → parity w (advanced (min m 64) t x) ≡ parity (bit_xor (bit_and w mask / 2) feedback) x
unfolding low_mask
clock_transposed m t w mask p feedback em ep ef x =
    clock_parity (min m 64) t w x
    ∙ ap (λ (y : ℕ). parity y x)
    (sym
    (ap₂ (λ (a b : ℕ). bit_xor (a / 2) b) (ap (bit_and w) em ∙ and_mask w (min m 64))
    (ef ∙ ap₂ chosen ep (ap (λ (y : ℕ). y / 2 + 1) em ∙ top_place (min m 64)))))

-- ---- a word of the list, and all of them

x_free_at : (ws : List ℕ) (x i : ℕ) → x_free ws x ≡ true → i < length ws → parity x (get_or ws i 0) ≡ 0
x_free_at [] x i h l = let no : ⊥ = omega arith in absurd no
x_free_at (w ∷ ws) x zero h l = x_free_head w ws x h
x_free_at (w ∷ ws) x (suc i) h l = x_free_at ws x i (x_free_tail w ws x h) (omega arith)

-- ---- what is left of a word

pub highest_below : (w r : ℕ) → r ≡ highest_bit w → r < 64
unfolding highest_bit
highest_below w r e = omega arith

-- `rest` has the parities of w, with whatever is even with all words
abbrev pub Rested : List ℕ → ℕ → ℕ → Type 0
Rested ws w rest = (x : ℕ) → x_free ws x ≡ true → parity rest x ≡ parity w x

even_more : (p q r : ℕ) → p < 2 → q ≡ 0 → p ≡ r → (p + q) % 2 ≡ r
even_more p q r l z e = omega arith

-- an XOR of words of which each is even with x
marked_even : (n x : ℕ) (f : ℕ → ℕ) → ((i : ℕ) → parity (f i) x ≡ 0) → parity (xor_below n f) x ≡ 0
marked_even zero x f h = ap (λ (y : ℕ). parity y x) (xor_below_none f) ∙ parity_zero x
marked_even (suc n) x f h =
    ap (λ (y : ℕ). parity y x) (xor_below_suc n f) ∙ parity_xor (xor_below n f) (f n) x
    ∙ even_more (parity (xor_below n f) x) (parity (f n) x) 0 (parity_lt (xor_below n f) x) (h n) (marked_even n x f h)

digit_even : (d v x : ℕ) → d < 2 → parity x v ≡ 0 → parity (d * v) x ≡ 0
digit_even d v x l h =
    ⊎_elim (λ (z : d ≡ 0). ap (λ (y : ℕ). parity (y * v) x) z ∙ ap (λ (y : ℕ). parity y x) (zero-mul v) ∙ parity_zero x)
    (λ (o : d ≡ 1). ap (λ (y : ℕ). parity (y * v) x) o ∙ ap (λ (y : ℕ). parity y x) (one-mul v) ∙ parity_comm v x ∙ h) (bit_cases d l)

pub rested_marked : (ws ts : List ℕ) (w v : ℕ) → EvenAll ws ts → v ≡ xor_marked ts w → Rested ws w (bit_xor w v)
unfolding xor_marked
rested_marked ws ts w v all e x h =
    parity_xor w v x
    ∙ even_more (parity w x) (parity v x) (parity w x) (parity_lt w x)
    (ap (λ (y : ℕ). parity y x) e
    ∙ marked_even (length ts) x (λ i. digit i w * get_or ts i 0) (λ i. digit_even (digit i w) (get_or ts i 0) x (mod2_lt (w / 2 ^ i)) (all x h i)))
    refl

-- ---- a word for each highest bit

zeros_at : (n i : ℕ) → get_or (zeros n) i 0 ≡ 0
zeros_at n i =
    dite (dec_lt i n) (λ (l : i < n). get_or-replicate n i 0 0 l)
    (λ (l : i < n → ⊥). get_or-eq_default (zeros n) 0 {n = i} (omega (arith, length_zeros n)))

pub even_none : (ws ts : List ℕ) → ts ≡ zeros 64 → EvenAll ws ts
even_none ws ts e x h i =
    ap (λ (l : List ℕ). parity x (get_or l i 0)) e ∙ ap (parity x) (zeros_at 64 i) ∙ parity_comm x 0 ∙ parity_zero x

pub even_put : (ws ts : List ℕ) (at i : ℕ) → EvenAll ws ts → i < length ws → at < length ts → EvenAll ws (set ts at (get_or ws i 0))
even_put ws ts at i all l room x h j =
    dite (ℕ_discrete j at)
    (λ (e : j ≡ at).
    ap (λ (k : ℕ). parity x (get_or (set ts at (get_or ws i 0)) k 0)) e ∙ ap (parity x) (get_or-set_same ts at (get_or ws i 0) 0 room) ∙ x_free_at ws x i h l)
    (λ (n : j ≡ at → ⊥). ap (parity x) (get_or-set_other ts at j (get_or ws i 0) 0 n) ∙ all x h j)

-- ---- the words one clock later

-- the words before place i are even with what was even with all words one clock before
abbrev pub Closing : ℕ → ℕ → List ℕ → ℕ → Type 0
Closing m t ws i = (x : ℕ) → x_free ws x ≡ true → (j : ℕ) → j < i → parity (advanced m t x) (get_or ws j 0) ≡ 0

module _ (m t : ℕ) (ws : List ℕ) where
  pub closing_start : Closing m t ws 0
  closing_start x h j l = let no : ⊥ = omega arith in absurd no

  pub closing_turn : (i w rest : ℕ) → Closing m t ws i → ((x : ℕ) → parity (get_or ws i 0) (advanced m t x) ≡ parity w x) → Rested ws w rest → rest ≡ 0
      → Closing m t ws (i + 1)
  closing_turn i w rest so_far e r z x h j l = dite (dec_lt j i) (so_far x h j) here
    where
      here : (j < i → ⊥) → parity (advanced m t x) (get_or ws j 0) ≡ 0
      here n =
          let same : j ≡ i = omega arith in
          ap (λ (k : ℕ). parity (advanced m t x) (get_or ws k 0)) same ∙ parity_comm (advanced m t x) (get_or ws i 0) ∙ e x ∙ sym (r x h)
          ∙ ap (λ (y : ℕ). parity y x) z ∙ parity_zero x

  pub closing_end : (i : ℕ) → Closing m t ws i → length ws ≤ i → ClosedUnder m t ws
  closing_end i so_far past x h = x_free_all ws (advanced m t x) (λ j l. so_far x h j (omega arith))

-- any number of clocks later
pub closed_later : (m t v : ℕ) (spread ws : List ℕ) → ClosedUnder m t ws → (i x : ℕ) → x_free ws x ≡ true → x_free ws (later (circuit m t v spread) i x) ≡ true
unfolding later
closed_later m t v spread ws closed zero x h = h
closed_later m t v spread ws closed (suc i) x h = closed (later (circuit m t v spread) i x) (closed_later m t v spread ws closed i x h)
