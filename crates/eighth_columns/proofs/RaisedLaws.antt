-- A register raised to 64 bits: the tap word and all words moved up so that the highest bit is bit 63. It goes as the narrower one does, and its
-- columns moved down are that one's (columns_lowered). Assumes nothing.
use mathlib.Core.Path.{◌≡◌, refl, sym, ap, ap₂, ◌∙◌, subst}
use mathlib.Core.Bool.{Bool, false, ◌||◌}
use mathlib.Core.List.{List, [], ◌∷◌, ◌++◌, map, map-append}
use Prim.Native.Nat.{ℕ, zero, suc, ◌+◌, ◌-◌, ◌*◌, ◌/◌, ◌%◌, ◌^◌, ◌≤◌, ◌<◌, min}
use native.Mathlib.Omega.{arith}
use native.Mathlib.Nat.{zero-mul, mul_comm, mul_assoc, mul-mod_left, mod-eq_of_lt}
use borrow.Author.Tests.{ltb-false}
use lib.Bits.{bit_xor}
use lib.Dec.{ltb}
use lib.ListN.{length, take, get_or, length-map, get_or-map}
use lib.Pow.{shl_lt, shl-shr, shr-shr, mod-pow-add}
use Rattle.word.specs.Word.{digit, beyond}
use Rattle.word.proofs.BoolLaws.{or_false_left, or_false_right}
use Rattle.word.proofs.WordLaws.{xor_scaled, within}
use Rattle.chains.specs.Driven.{chosen, bad_spread}
use Rattle.chains.proofs.Laws.{good_spread}
use Rattle.register.specs.Circuit.{Circuit, circuit, chains, advanced}
use Rattle.signatures.specs.Signature.{Response}
use Rattle.signatures.specs.Later.{later}
use Rattle.signatures.specs.Columns.{slice_columns, columns_below}
use Rattle.rows.specs.Marks.{marked_words}
use Rattle.swept_columns.proofs.FillLaws.{later_words, later_words_get, first_words}
use Rattle.sparse_columns.proofs.SparseLaws.{map_chosen}

-- ---- one clock

scaled_mod : (x m c : ℕ) → x * 2 ^ c % 2 ^ (m + c) ≡ x % 2 ^ m * 2 ^ c
scaled_mod x m c =
    let plain : x % 2 ^ m * 2 ^ c + 0 ≡ x % 2 ^ m * 2 ^ c = omega arith in
    mod-pow-add (x * 2 ^ c) m c ∙ ap₂ (λ (y z : ℕ). y % 2 ^ m * 2 ^ c + z) (shl-shr x c) (mul-mod_left x (2 ^ c)) ∙ plain

scaled_chosen : (d t c : ℕ) → chosen d (t * 2 ^ c) ≡ chosen d t * 2 ^ c
scaled_chosen zero t c = sym (zero-mul (2 ^ c))
scaled_chosen (suc d) t c = refl

module _ (m c : ℕ) (some : 1 ≤ m) (sum : m + c ≡ 64) where
  raised_advanced : (t w : ℕ) → advanced 64 (t * 2 ^ c) (w * 2 ^ c) ≡ advanced m t w * 2 ^ c
  unfolding advanced
  raised_advanced t w =
      let twice : w * 2 ^ c * 2 ≡ w * 2 * 2 ^ c = mul_assoc w (2 ^ c) 2 ∙ ap (λ (x : ℕ). w * x) (mul_comm (2 ^ c) 2) ∙ sym (mul_assoc w 2 (2 ^ c)) in
      let moved : w * 2 ^ c * 2 % 2 ^ 64 ≡ w * 2 % 2 ^ m * 2 ^ c =
      ap₂ (λ (x y : ℕ). x % 2 ^ y) twice (sym sum) ∙ scaled_mod (w * 2) m c in
      let place : 63 ≡ c + (m - 1) = omega arith in
      let top : digit 63 (w * 2 ^ c) ≡ digit (m - 1) w =
      ap (λ (x : ℕ). digit x (w * 2 ^ c)) place
      ∙ ap (λ (x : ℕ). x % 2) (sym (shr-shr (w * 2 ^ c) c (m - 1)) ∙ ap (λ (x : ℕ). x / 2 ^ (m - 1)) (shl-shr w c)) in
      ap₂ bit_xor moved (ap (λ (d : ℕ). chosen d (t * 2 ^ c)) top ∙ scaled_chosen (digit (m - 1) w) t c)
      ∙ sym (xor_scaled c (w * 2 % 2 ^ m) (chosen (digit (m - 1) w) t))

  -- ---- some clocks, and the columns

  module _ (t v v' : ℕ) (ws ws' : List ℕ) where
    abbrev narrow : Circuit
    narrow = circuit m t v ws

    abbrev raised : Circuit
    raised = circuit 64 (t * 2 ^ c) v' ws'

    raised_later : (j w : ℕ) → later raised j (w * 2 ^ c) ≡ later narrow j w * 2 ^ c
    unfolding later
    raised_later zero w = refl
    raised_later (suc j) w = ap (advanced 64 (t * 2 ^ c)) (raised_later j w) ∙ raised_advanced t (later narrow j w)

    module _ (long : length ws' ≡ length ws) (up : (i : ℕ) → get_or ws' i 0 ≡ get_or ws i 0 * 2 ^ c) (s : ℕ) (u : Response) where
      word_lowered : (j i : ℕ) → get_or (later_words raised j ws') i 0 / 2 ^ c ≡ get_or (later_words narrow j ws) i 0
      word_lowered j i =
          ap (λ (x : ℕ). x / 2 ^ c) (later_words_get raised j ws' i ∙ ap (later raised j) (up i) ∙ raised_later j (get_or ws i 0))
          ∙ shl-shr (later narrow j (get_or ws i 0)) c ∙ sym (later_words_get narrow j ws i)

      slice_lowered : (i : ℕ) → i < s → map (λ w. w / 2 ^ c) (slice_columns raised s u i (chains raised)) ≡ slice_columns narrow s u i (chains narrow)
      slice_lowered i h =
          ap (map (λ w. w / 2 ^ c)) (first_words raised s u i (length ws') h (omega arith))
          ∙ map_chosen (λ w. w / 2 ^ c) (later_words raised (s - suc i) ws') (later_words narrow (s - suc i) ws) (u i) (length ws')
          (λ k l. word_lowered (s - suc i) k)
          ∙ ap (marked_words (later_words narrow (s - suc i) ws) (u i)) long ∙ sym (first_words narrow s u i (length ws) h (omega arith))

      lowered_below : (i : ℕ) → i ≤ s → map (λ w. w / 2 ^ c) (columns_below raised s u i) ≡ columns_below narrow s u i
      unfolding columns_below
      lowered_below zero h = refl
      lowered_below (suc i) h =
          map-append (λ w. w / 2 ^ c) (columns_below raised s u i) (slice_columns raised s u i (chains raised))
          ∙ ap₂ (λ (a b : List ℕ). a ++ b) (lowered_below i (omega arith)) (slice_lowered i h)

      pub columns_lowered : map (λ w. w / 2 ^ c) (columns_below raised s u s) ≡ columns_below narrow s u s
      columns_lowered = lowered_below s (omega arith)

-- ---- the spread words of a taken set

map_take : (f : ℕ → ℕ) (n : ℕ) (l : List ℕ) → take n (map f l) ≡ map f (take n l)
map_take f zero l = refl
map_take f (suc n) [] = refl
map_take f (suc n) (x ∷ l) = ap (λ (y : List ℕ). f x ∷ y) (map_take f n l)

module _ (m c n : ℕ) (spread : List ℕ) (sum : m + c ≡ 64) where
  pub raised_length : length (take n (map (λ w. w * 2 ^ c % 2 ^ 64) spread)) ≡ length (take n spread)
  raised_length = ap length (map_take (λ w. w * 2 ^ c % 2 ^ 64) n spread) ∙ length-map (take n spread) (λ w. w * 2 ^ c % 2 ^ 64)

  -- nothing is lost
  pub raised_whole : (w : ℕ) → w < 2 ^ m → w * 2 ^ c % 2 ^ 64 ≡ w * 2 ^ c
  raised_whole w h = ap (λ (x : ℕ). w * 2 ^ c % 2 ^ x) (sym sum) ∙ mod-eq_of_lt (shl_lt m c h)

  pub raised_words : bad_spread m (take n spread) ≡ false → (i : ℕ) → get_or (take n (map (λ w. w * 2 ^ c % 2 ^ 64) spread)) i 0 ≡ get_or (take n spread) i 0 * 2 ^ c
  raised_words good i =
      let none : 0 ≡ 0 * 2 ^ c % 2 ^ 64 = sym (ap (λ (x : ℕ). x % 2 ^ 64) (zero-mul (2 ^ c))) in
      ap (λ (l : List ℕ). get_or l i 0) (map_take (λ w. w * 2 ^ c % 2 ^ 64) n spread)
      ∙ ap (get_or (map (λ w. w * 2 ^ c % 2 ^ 64) (take n spread)) i) none
      ∙ get_or-map (λ w. w * 2 ^ c % 2 ^ 64) (take n spread) i 0
      ∙ raised_whole (get_or (take n spread) i 0) (good_spread m (take n spread) good i)

-- the columns of a taken set: its width counts as at most 64
pub lowered_taken : (m taps v n width mr tr vr : ℕ) (spread raised : List ℕ) (s : ℕ) (u : Response) → width ≡ min m 64 → 1 ≤ m → taps < 2 ^ min m 64
    → bad_spread (min m 64) (take n spread) ≡ false → raised ≡ map (λ w. w * 2 ^ (64 - width) % 2 ^ 64) spread → mr ≡ 64
    → tr ≡ taps * 2 ^ (64 - width) % 2 ^ 64
    → map (λ w. w / 2 ^ (64 - width)) (columns_below (circuit (min mr 64) tr vr (take n raised)) s u s) ≡ columns_below (circuit (min m 64) taps v (take n spread)) s u s
lowered_taken m taps v n width mr tr vr spread raised s u ew hm ht good er em et =
    ap₂ (λ (x y : ℕ). map (λ w. w / 2 ^ c) (columns_below (circuit x y vr (take n raised)) s u s)) full (et ∙ raised_whole (min m 64) c n spread sum taps ht)
    ∙ ap (λ (l : List ℕ). map (λ w. w / 2 ^ c) (columns_below (circuit 64 (taps * 2 ^ c) vr (take n l)) s u s)) er
    ∙ columns_lowered (min m 64) c some sum taps v vr (take n spread) (take n (map (λ w. w * 2 ^ c % 2 ^ 64) spread))
    (raised_length (min m 64) c n spread sum) (raised_words (min m 64) c n spread sum good) s u
  where
    c : ℕ
    c = 64 - width

    sum : min m 64 + c ≡ 64
    sum = omega arith

    some : 1 ≤ min m 64
    some = omega arith

    full : min mr 64 ≡ 64
    full = omega arith

-- the test for it
pub raisable : (m taps width : ℕ) (past bad r : Bool) → width ≡ min m 64 → past ≡ beyond width taps → r ≡ bad
    → ((ltb width 1 || past) || r) ≡ false → (1 ≤ m) × (taps < 2 ^ min m 64) × (bad ≡ false)
raisable m taps width past bad r ew ep er e =
    let both = or_false_left (ltb width 1 || past) r e in (
      omega (arith, ltb-false width 1 (or_false_left (ltb width 1) past both)),
      subst (λ (x : ℕ). taps < 2 ^ x) ew (within width taps (sym ep ∙ or_false_right (ltb width 1) past both)),
      sym er ∙ or_false_right (ltb width 1 || past) r e,
    )
