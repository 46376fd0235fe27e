-- Words put into the slots of their highest bits, and the words of the slots that aren't dead written out. Assumes nothing.
use mathlib.Core.Path.{◌≡◌, refl, sym, ap, ap₂, ◌∙◌, subst}
use mathlib.Core.Logic.{⊎_elim, dite}
use mathlib.Core.List.{List, [], ◌∷◌, ◌++◌, append-nil}
use Prim.Native.Nat.{ℕ, zero, suc, ◌+◌, ◌-◌, ◌*◌, ◌/◌, ◌%◌, ◌^◌, ◌≤◌, ◌<◌}
use native.Mathlib.Nat.{le_refl, not-suc-le-zero, le_of_suc-le-suc}
use native.Mathlib.Numerals.{add-one}
use native.Mathlib.Decide.{dec_lt, ℕ_discrete}
use native.Mathlib.Omega.{arith}
use lib.Bits.{bit_xor}
use lib.ListN.{length, get_or, take, drop, set, length-set, length-append, drop_of_length-le, get_or-replicate, get_or-eq_default}
use lib.Pow.{pow_pos}
use lib.Seq.{drop-cons, take-suc, take_all, take-suc-set, take-set-le, append_snoc, length-take-le, get_or-set_same, get_or-set_other}
use Rattle.word.specs.Word.{digit, highest_bit}
use Rattle.word.specs.Zeros.{zeros}
use Rattle.word.proofs.Laws.{bit_cases, mod2_lt, digit_xor}
use Rattle.word.proofs.FrontLaws.{length_zeros}
use Rattle.combinations.proofs.Units.{power_top, one_bit}
use Rattle.turned_words.specs.Turned.{kept}
use Rattle.turned_words.proofs.KeptLaws.{digit_suc, digit_zero, kept_none, kept_alive, kept_dead, kept_full, kept_front, one_half, more_half, more_low}
use Rattle.turned_words.proofs.TurnedLaws.{plus_none, power_other}
use Rattle.spread_words.specs.Spread.{Spread, SpreadFrom}

-- ---- a word in a slot above all that aren't dead

last_low : (dead : ℕ) → dead % 2 ≡ 1 → bit_xor dead (2 ^ 0) % 2 ≡ 0
last_low dead h =
    sym (digit_zero (bit_xor dead (2 ^ 0))) ∙ digit_xor 0 dead (2 ^ 0) ∙ ap₂ (λ (a b : ℕ). (a + b) % 2) (digit_zero dead ∙ h) (digit_zero 1)

kept_gone : (dead : ℕ) (us : List ℕ) → ((i : ℕ) → i < length us → digit i dead ≡ 1) → kept dead us ≡ []
kept_gone dead us h = kept_front dead [] us (λ i l. absurd (not-suc-le-zero l)) (λ i l r. h i (omega arith))

kept_last : (us : List ℕ) (t dead w : ℕ) → t < length us → ((i : ℕ) → t ≤ i → i < length us → digit i dead ≡ 1)
    → kept (bit_xor dead (2 ^ t)) (set us t w) ≡ kept dead us ++ w ∷ []
kept_last [] t dead w h d = absurd (not-suc-le-zero h)
kept_last (u ∷ us) zero dead w h d =
    let low : dead % 2 ≡ 1 = sym (digit_zero dead) ∙ d 0 (omega arith) (omega arith) in
    let none : kept (dead / 2) us ≡ [] = kept_gone (dead / 2) us (λ i l. sym (digit_suc i dead) ∙ d (suc i) (omega arith) (omega arith)) in
    kept_alive (bit_xor dead (2 ^ 0)) w us (last_low dead low) ∙ ap (λ (x : ℕ). w ∷ kept x us) (one_half dead) ∙ ap (λ (l : List ℕ). w ∷ l) none
    ∙ sym (ap (λ (l : List ℕ). l ++ w ∷ []) (kept_dead dead u us low ∙ none))
kept_last (u ∷ us) (suc t) dead w h d =
    let later : kept (bit_xor (dead / 2) (2 ^ t)) (set us t w) ≡ kept (dead / 2) us ++ w ∷ [] =
    kept_last us t (dead / 2) w (le_of_suc-le-suc h) (λ i l r. sym (digit_suc i dead) ∙ d (suc i) (omega arith) (omega arith)) in
    ⊎_elim
    (λ (e : dead % 2 ≡ 0).
    kept_alive (bit_xor dead (2 ^ suc t)) u (set us t w) (more_low dead t ∙ e) ∙ ap (λ (x : ℕ). u ∷ kept x (set us t w)) (more_half dead t)
    ∙ ap (λ (l : List ℕ). u ∷ l) later ∙ sym (ap (λ (l : List ℕ). l ++ w ∷ []) (kept_alive dead u us e)))
    (λ (e : dead % 2 ≡ 1).
    kept_dead (bit_xor dead (2 ^ suc t)) u (set us t w) (more_low dead t ∙ e) ∙ ap (λ (x : ℕ). kept x (set us t w)) (more_half dead t)
    ∙ later ∙ sym (ap (λ (l : List ℕ). l ++ w ∷ []) (kept_dead dead u us e)))
    (bit_cases (dead % 2) (mod2_lt dead))

-- ---- the loop over the words

pub digit_ones : (n i : ℕ) → i < n → digit i (2 ^ n - 1) ≡ 1
digit_ones zero i h = absurd (not-suc-le-zero h)
digit_ones (suc n) zero h = digit_zero (2 ^ suc n - 1) ∙ omega (arith, pow_pos n)
digit_ones (suc n) (suc i) h =
    let half : (2 ^ suc n - 1) / 2 ≡ 2 ^ n - 1 = omega (arith, pow_pos n) in
    digit_suc i (2 ^ suc n - 1) ∙ ap (digit i) half ∙ digit_ones n i (le_of_suc-le-suc h)

pub all_ones : (i : ℕ) → i < 64 → digit i 18446744073709551615 ≡ 1
all_ones i h = digit_ones 64 i h

pub highest_below : (w r : ℕ) → r ≡ highest_bit w → r < 64
unfolding highest_bit
highest_below w r e = omega arith

pub record Spreading (l ws : List ℕ) (dead next k : ℕ) : Type 0 where
  pub slots : Spread ws dead
  pub above : (i : ℕ) → next ≤ i → i < 64 → digit i dead ≡ 1
  pub held : kept dead ws ≡ take k l
  pub inside : k ≤ length l

pub spreading_start : (l ws : List ℕ) → ws ≡ zeros 64 → Spreading l ws 18446744073709551615 0 0
spreading_start l ws e =
    record {
      slots = record {
        wide = ap length e ∙ length_zeros 64;
        gone = λ i h. zero_at i;
        top = λ i li h. (let z : ⊥ = omega (arith, h, all_ones i li) in absurd z);
      };
      above = λ i h li. all_ones i li;
      held = kept_full 64 ws (omega (arith, ap length e, length_zeros 64));
      inside = omega arith;
    }
  where
    zero_at : (i : ℕ) → get_or ws i 0 ≡ 0
    zero_at i =
        ap (λ (l : List ℕ). get_or l i 0) e
        ∙ dite (dec_lt i 64) (λ (li : i < 64). get_or-replicate 64 i 0 0 li)
        (λ (li : i < 64 → ⊥). get_or-eq_default (zeros 64) 0 {n = i} (omega (arith, length_zeros 64)))

pub spreading_turn : (l ws : List ℕ) (dead next k t : ℕ) → Spreading l ws dead next k → k < length l → next ≤ t → t < 64 → get_or l k 0 / 2 ^ t ≡ 1
    → Spreading l (set ws t (get_or l k 0)) (bit_xor dead ((1 * 2 ^ t) % 18446744073709551616)) (t + 1) (k + 1)
spreading_turn l ws dead next k t s lk hn lt ht =
    subst (λ (bit : ℕ). Spreading l (set ws t w) (bit_xor dead bit) (t + 1) (k + 1)) (sym (one_bit t lt))
    record {
      slots = record {
        wide = length-set ws t w ∙ s.slots.wide;
        gone = λ i h. dite (ℕ_discrete i t) (λ (q : i ≡ t). (let z : ⊥ = omega (arith, h, ap (λ (j : ℕ). digit j (bit_xor dead (2 ^ t))) q, here) in absurd z)) (λ (n : i ≡ t → ⊥). get_or-set_other ws t i w 0 n ∙ s.slots.gone i (sym (other i n) ∙ h));
        top = λ i li h. dite (ℕ_discrete i t) (λ (q : i ≡ t). ap (λ (j : ℕ). get_or (set ws t w) j 0 / 2 ^ j) q ∙ ap (λ (x : ℕ). x / 2 ^ t) (get_or-set_same ws t w 0 (omega (arith, s.slots.wide))) ∙ ht) (λ (n : i ≡ t → ⊥). ap (λ (x : ℕ). x / 2 ^ i) (get_or-set_other ws t i w 0 n) ∙ s.slots.top i li (sym (other i n) ∙ h));
      };
      above = λ i h li. other i (λ (q : i ≡ t). (let z : ⊥ = omega arith in z)) ∙ s.above i (omega arith) li;
      held =
          kept_last ws t dead w (omega (arith, s.slots.wide)) (λ i h li. s.above i (omega arith) (omega (arith, s.slots.wide)))
          ∙ ap (λ (x : List ℕ). x ++ w ∷ []) s.held ∙ sym (take-suc l k 0 lk) ∙ ap (λ (n : ℕ). take n l) (sym (add-one k));
      inside = omega arith;
    }
  where
    w : ℕ
    w = get_or l k 0

    other : (i : ℕ) → (i ≡ t → ⊥) → digit i (bit_xor dead (2 ^ t)) ≡ digit i dead
    other i n = digit_xor i dead (2 ^ t) ∙ plus_none (digit i dead) (digit i (2 ^ t)) (mod2_lt (dead / 2 ^ i)) (power_other i t n)

    here : digit t (bit_xor dead (2 ^ t)) ≡ 0
    here = digit_xor t dead (2 ^ t) ∙ ap₂ (λ (a b : ℕ). (a + b) % 2) (s.above t hn lt) (ap (λ (x : ℕ). x % 2) (power_top t))

pub spreading_end : (l ws : List ℕ) (dead next k : ℕ) → Spreading l ws dead next k → length l ≤ k → SpreadFrom l ws dead
spreading_end l ws dead next k s h = record { slots = s.slots; held = s.held ∙ take_all k l h }

-- ---- the loop over the slots: the words kept stand at the front

pub record Keeping (dead : ℕ) (us l ws : List ℕ) (rest at k : ℕ) : Type 0 where
  pub inside : at ≤ length l
  pub long : length ws ≡ length l
  pub done : take at ws ++ kept rest (drop k us) ≡ kept dead us

pub keeping_start : (dead : ℕ) (us l : List ℕ) → Keeping dead us l l dead 0 0
keeping_start dead us l = record { inside = omega arith; long = refl; done = refl }

pub keeping_turn : (dead : ℕ) (us l ws : List ℕ) (rest at k : ℕ) → Keeping dead us l ws rest at k → k < length us → at < length ws
    → Keeping dead us l (set ws at (get_or us k 0)) (rest / 2) (at + (1 - rest % 2)) (k + 1)
keeping_turn dead us l ws rest at k t h room =
    record {
      inside = omega (arith, t.long, room, mod2_lt rest);
      long = length-set ws at w ∙ t.long;
      done = ⊎_elim alive gone (bit_cases (rest % 2) (mod2_lt rest)) ∙ t.done;
    }
  where
    w : ℕ
    w = get_or us k 0

    later : drop (k + 1) us ≡ drop (suc k) us
    later = ap (λ (n : ℕ). drop n us) (add-one k)

    alive : rest % 2 ≡ 0 → take (at + (1 - rest % 2)) (set ws at w) ++ kept (rest / 2) (drop (k + 1) us) ≡ take at ws ++ kept rest (drop k us)
    alive e =
        let next : at + (1 - rest % 2) ≡ suc at = omega arith in
        ap₂ (λ (n : ℕ) (x : List ℕ). take n (set ws at w) ++ kept (rest / 2) x) next later
        ∙ ap (λ (x : List ℕ). x ++ kept (rest / 2) (drop (suc k) us)) (take-suc-set ws at w room)
        ∙ append_snoc (take at ws) w (kept (rest / 2) (drop (suc k) us))
        ∙ ap (λ (x : List ℕ). take at ws ++ x) (sym (ap (kept rest) (drop-cons us k 0 h) ∙ kept_alive rest w (drop (suc k) us) e))

    gone : rest % 2 ≡ 1 → take (at + (1 - rest % 2)) (set ws at w) ++ kept (rest / 2) (drop (k + 1) us) ≡ take at ws ++ kept rest (drop k us)
    gone e =
        let next : at + (1 - rest % 2) ≡ at = omega arith in
        ap₂ (λ (n : ℕ) (x : List ℕ). take n (set ws at w) ++ kept (rest / 2) x) next later
        ∙ ap (λ (x : List ℕ). x ++ kept (rest / 2) (drop (suc k) us)) (take-set-le at ws at w (le_refl at))
        ∙ ap (λ (x : List ℕ). take at ws ++ x) (sym (ap (kept rest) (drop-cons us k 0 h) ∙ kept_dead rest w (drop (suc k) us) e))

keeping_all : (dead : ℕ) (us l ws : List ℕ) (rest at k : ℕ) → Keeping dead us l ws rest at k → kept rest (drop k us) ≡ [] → (at ≡ length (kept dead us)) × (take at ws ≡ kept dead us)
keeping_all dead us l ws rest at k t none =
    let all : take at ws ≡ kept dead us = sym (append-nil (take at ws)) ∙ ap (λ (x : List ℕ). take at ws ++ x) (sym none) ∙ t.done in
    (sym (length-take-le at ws (omega (arith, t.inside, t.long))) ∙ ap length all, all)

pub keeping_end : (dead : ℕ) (us l ws : List ℕ) (rest at k : ℕ) → Keeping dead us l ws rest at k → length us ≤ k → (at ≡ length (kept dead us)) × (take at ws ≡ kept dead us)
keeping_end dead us l ws rest at k t h = keeping_all dead us l ws rest at k t (ap (kept rest) (drop_of_length-le us h) ∙ kept_none rest)

-- no room is left, and so no word
pub keeping_full : (dead : ℕ) (us l ws : List ℕ) (rest at k : ℕ) → Keeping dead us l ws rest at k → length ws ≤ at → length (kept dead us) ≤ length l
    → (at ≡ length (kept dead us)) × (take at ws ≡ kept dead us)
keeping_full dead us l ws rest at k t full room =
    keeping_all dead us l ws rest at k t
    (drop_of_length-le (kept rest (drop k us)) {i = 0}
    (omega (arith, t.inside, t.long, length-take-le at ws (omega (arith, t.inside, t.long)), sym (length-append (take at ws) (kept rest (drop k us))) ∙ ap length t.done)))
