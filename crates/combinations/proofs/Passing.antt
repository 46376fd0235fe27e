-- One pass over the words finds out whether they are a reduced list. Assumes nothing.
use mathlib.Core.Path.{◌≡◌, refl, sym, ap, ap₂, ◌∙◌, subst}
use mathlib.Core.Bool.{Bool, true, not, ◌&&◌}
use mathlib.Core.List.{List, [], ◌∷◌}
use Prim.Native.Nat.{ℕ, suc, ◌/◌, ◌^◌, ◌<◌, ◌≤◌}
use native.Mathlib.Nat.{lt_of_lt_of_le, le_trans, le_refl, lt_of_not-le}
use native.Mathlib.Decide.{dec_le}
use native.Mathlib.Omega.{arith}
use borrow.Author.Tests.{eqb-true, eq-eqb, lt-ltb, ltb-true, lt-leb, leb-false, not-true}
use lib.Bits.{bit_and}
use lib.Dec.{eqb, ltb, leb}
use lib.ListN.{get_or}
use lib.Pow.{pow_pos, pow_mono}
use Rattle.word.specs.Word.{digit, beyond, highest_bit}
use Rattle.word.proofs.Laws.{and_or_pow, and_or_pow_word, and_or_pow_digit}
use Rattle.word.specs.Some.{all_of}
use Rattle.word.proofs.WordLaws.{not_beyond}
use Rattle.word.proofs.BoolLaws.{and_left, and_right, and_intro, iff_eq}
use Rattle.combinations.specs.Reduced.{ascending, tops_clear, is_reduced}
use Rattle.combinations.specs.Pass.{follows, with_top, one_pass}
use Rattle.combinations.proofs.Tops.{ClearIn, clear_nil, clear_cons, Tops, tops_nil, tops_cons, top_below, top_least}
use Rattle.combinations.proofs.Reducing.{top_of_highest, highest_below, highest_of_top, clear_above, from_top, reduced_of_tops, tops_of_reduced}

-- no word of the list has a bit of seen
data Avoids (seen : ℕ) : List ℕ → Type 0 where
  avoids_nil : Avoids seen []
  avoids_cons : {w : ℕ} {ws : List ℕ} → bit_and seen w ≡ 0 → Avoids seen ws → Avoids seen (w ∷ ws)

avoids_before : (seen w : ℕ) {ws : List ℕ} → Avoids (with_top seen w) ws → Avoids seen ws
unfolding with_top
avoids_before seen w avoids_nil = avoids_nil
avoids_before seen w (avoids_cons {w = v} h r) = avoids_cons (and_or_pow_word seen (highest_bit w) v h) (avoids_before seen w r)

avoids_clear : (seen w : ℕ) {ws : List ℕ} → Avoids (with_top seen w) ws → ClearIn (highest_bit w) ws
unfolding with_top
avoids_clear seen w avoids_nil = clear_nil
avoids_clear seen w (avoids_cons {w = v} h r) = clear_cons (and_or_pow_digit seen (highest_bit w) v h) (avoids_clear seen w r)

avoids_after : (seen w : ℕ) {ws : List ℕ} → Avoids seen ws → ClearIn (highest_bit w) ws → Avoids (with_top seen w) ws
unfolding with_top
avoids_after seen w avoids_nil clear_nil = avoids_nil
avoids_after seen w (avoids_cons {w = v} h r) (clear_cons d q) =
    avoids_cons (and_or_pow seen (highest_bit w) v h d) (avoids_after seen w r q)

-- ---- what passes has ascending highest bits

follows_above : (m last seen w : ℕ) → follows m last seen w ≡ true → last < w
unfolding follows
follows_above m last seen w h = ltb-true last w (and_left (ltb last w) _ h)

follows_inside : (m last seen w : ℕ) → follows m last seen w ≡ true → w < 2 ^ m
unfolding follows beyond
follows_inside m last seen w h =
    leb-false (2 ^ m) w (not-true (leb (2 ^ m) w) (and_left (not (leb (2 ^ m) w)) _ (and_right (ltb last w) _ h)))

follows_avoids : (m last seen w : ℕ) → follows m last seen w ≡ true → bit_and seen w ≡ 0
unfolding follows
follows_avoids m last seen w h =
    eqb-true (bit_and seen w) 0 (and_right (not (beyond m w)) _ (and_right (ltb last w) _ h))

follows_of : (m last seen w : ℕ) → last < w → w < 2 ^ m → bit_and seen w ≡ 0 → follows m last seen w ≡ true
unfolding follows beyond
follows_of m last seen w a b c =
    and_intro _ _ (lt-ltb last w a) (and_intro _ _ (ap not (lt-leb (2 ^ m) w b)) (eq-eqb (bit_and seen w) 0 c))

positive : (last w : ℕ) → last < w → w ≡ 0 → ⊥
positive last w l z = omega arith

digit_of_lem : (seen w v : ℕ) → bit_and (with_top seen w) v ≡ 0 → digit (highest_bit w) v ≡ 0
unfolding with_top
digit_of_lem seen w v h = and_or_pow_digit seen (highest_bit w) v h

pass_tops : (m : ℕ) (ws : List ℕ) (k last seen : ℕ) → m ≤ 64 → ((w : ℕ) → last < w → bit_and seen w ≡ 0 → 2 ^ k ≤ w)
    → one_pass m last seen ws ≡ true → Tops m k ws × Avoids seen ws
unfolding one_pass
pass_tops m [] k last seen h f p = (tops_nil, avoids_nil)
pass_tops m (w ∷ ws) k last seen h f p =
    let here : follows m last seen w ≡ true = and_left (follows m last seen w) _ p in
    let above : last < w = follows_above m last seen w here in
    let inside : w < 2 ^ m = follows_inside m last seen w here in
    let clear : bit_and seen w ≡ 0 = follows_avoids m last seen w here in
    let n : w ≡ 0 → ⊥ = λ z. positive last w above z in
    let t : w / 2 ^ highest_bit w ≡ 1 = top_of_highest w n (lt_of_lt_of_le inside (pow_mono h)) in
    let rest =
    pass_tops m ws (suc (highest_bit w)) w (with_top seen w) h
    (λ v l a. clear_above (highest_bit w) w v t l (digit_of_lem seen w v a)) (and_right (follows m last seen w) _ p)
    in (
      tops_cons (highest_bit w) (from_top k (highest_bit w) w (f w above clear) t) (highest_below m w h n inside) t
          (avoids_clear seen w rest.1) rest.0,
      avoids_cons clear (avoids_before seen w rest.1),
    )

tops_pass : (m : ℕ) {k : ℕ} {ws : List ℕ} (last seen : ℕ) → m ≤ 64 → last < 2 ^ k → Tops m k ws → Avoids seen ws → one_pass m last seen ws ≡ true
unfolding one_pass
tops_pass m last seen h l tops_nil avoids_nil = refl
tops_pass m last seen h l (tops_cons {w = w} {ws = ws} i ki im t r rest) (avoids_cons a q) =
    let same : highest_bit w ≡ i = highest_of_top i w (le_trans im h) t in
    and_intro _ _
    (follows_of m last seen w (lt_of_lt_of_le l (le_trans (pow_mono ki) (top_least i w t)))
    (lt_of_lt_of_le (top_below i w t) (pow_mono im)) a)
    (tops_pass m w (with_top seen w) h (top_below i w t) rest
    (avoids_after seen w q (subst (λ (n : ℕ). ClearIn n ws) (sym same) r)))

no_bits : (ws : List ℕ) → Avoids 0 ws
no_bits [] = avoids_nil
no_bits (w ∷ ws) = avoids_cons refl (no_bits ws)

narrow_exactly : (m : ℕ) (ws : List ℕ) → m ≤ 64 → is_reduced m ws ≡ one_pass m 0 0 ws
narrow_exactly m ws h =
    iff_eq _ _
    (λ (r : is_reduced m ws ≡ true). tops_pass m 0 0 h (pow_pos 0) (tops_of_reduced m ws h r) (no_bits ws))
    (λ (p : one_pass m 0 0 ws ≡ true). reduced_of_tops m ws h (pass_tops m ws 0 0 0 h (λ w l a. l) p).0)

-- ---- words of 64 bits: m above 64 asks no more than 64 does

module _ (m : ℕ) (h : 64 ≤ m) where
  beyond_wide : (w : ℕ) → w < 2 ^ 64 → beyond m w ≡ beyond 64 w
  beyond_wide w l = not_beyond m w (lt_of_lt_of_le l (pow_mono h)) ∙ sym (not_beyond 64 w l)

  inside_wide : (ws : List ℕ) → ((i : ℕ) → get_or ws i 0 < 2 ^ 64)
      → all_of (λ w. not (eqb w 0) && not (beyond m w)) ws ≡ all_of (λ w. not (eqb w 0) && not (beyond 64 w)) ws
  unfolding all_of
  inside_wide [] s = refl
  inside_wide (w ∷ ws) s =
      ap₂ (λ (a b : Bool). (not (eqb w 0) && not a) && b) (beyond_wide w (s 0)) (inside_wide ws (λ i. s (suc i)))

  reduced_wide : (ws : List ℕ) → ((i : ℕ) → get_or ws i 0 < 2 ^ 64) → is_reduced m ws ≡ is_reduced 64 ws
  unfolding is_reduced
  reduced_wide ws s = ap (λ (b : Bool). b && (ascending ws && tops_clear ws)) (inside_wide ws s)

  pass_wide : (ws : List ℕ) (last seen : ℕ) → ((i : ℕ) → get_or ws i 0 < 2 ^ 64) → one_pass m last seen ws ≡ one_pass 64 last seen ws
  unfolding one_pass follows
  pass_wide [] last seen s = refl
  pass_wide (w ∷ ws) last seen s =
      ap₂ (λ (a b : Bool). (ltb last w && (not a && eqb (bit_and seen w) 0)) && b) (beyond_wide w (s 0))
      (pass_wide ws w (with_top seen w) (λ i. s (suc i)))

pub pass_exactly : (m : ℕ) (ws : List ℕ) → ((i : ℕ) → get_or ws i 0 < 2 ^ 64) → is_reduced m ws ≡ one_pass m 0 0 ws
pass_exactly m ws s =
    elim (dec_le m 64) [
      | yes h ↦ narrow_exactly m ws h
      | no n ↦
          let h : 64 ≤ m = omega (arith, lt_of_not-le n) in
          reduced_wide m h ws s ∙ narrow_exactly 64 ws (le_refl 64) ∙ sym (pass_wide m h ws 0 0 s)
    ]
