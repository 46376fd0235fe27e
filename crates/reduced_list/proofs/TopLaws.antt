-- The pass that keeps the highest bits alone finds out whether words are a reduced list.
--
--   tops_exactly                            .. and its loop:
--   Passed ws seen i                        what is left of the pass decides: `seen` has the highest bits of the words before place i
--   passed_start, passed_turn, passed_stop, passed_end
-- Assumes nothing.
use mathlib.Core.Path.{◌≡◌, refl, sym, ap, ap₂, ◌∙◌}
use mathlib.Core.Bool.{Bool, true, false, not, ◌&&◌}
use mathlib.Core.List.{List, [], ◌∷◌}
use Prim.Native.Nat.{ℕ, suc, ◌+◌, ◌/◌, ◌^◌, ◌<◌, ◌≤◌}
use native.Mathlib.Nat.{lt_of_lt_of_le, lt_trans, le_trans}
use native.Mathlib.Numerals.{add-one}
use native.Mathlib.Omega.{arith}
use borrow.Author.Tests.{eqb-true, lt-ltb, ltb-true, le-leb, leb-true, not-false, not-true}
use lib.Bits.{bit_and, bit_or, or_shr}
use lib.Dec.{eqb, ltb, leb}
use lib.ListN.{length, get_or, drop, drop_of_length-le}
use lib.Pow.{pow_pos, pow_mono}
use lib.Seq.{drop-cons}
use Rattle.word.specs.Word.{beyond, highest_bit}
use Rattle.word.proofs.Laws.{and_or_pow_digit}
use Rattle.word.proofs.BoolLaws.{and_left, and_right, iff_eq}
use Rattle.word.proofs.WordLaws.{within, not_beyond}
use Rattle.combinations.specs.Pass.{follows, with_top, one_pass}
use Rattle.combinations.specs.Reduced.{is_reduced}
use Rattle.combinations.proofs.Tops.{below_shr, top_below, top_least}
use Rattle.combinations.proofs.Units.{power_top}
use Rattle.combinations.proofs.Reducing.{top_of_highest, clear_above, from_top}
use Rattle.combinations.proofs.Theorems.{reduced_exactly}
use Rattle.reduced_list.specs.TopPass.{next_above, top_pass}

-- ---- the word before and the highest bits so far tell the same of a word that has none of these bits

-- both are below 2 ^ k, and a word that is above either and has none of the bits seen is not
record Level (last seen k : ℕ) : Type 0 where
  pub last_below : last < 2 ^ k
  pub seen_below : seen < 2 ^ k
  pub from_last : (w : ℕ) → last < w → bit_and seen w ≡ 0 → 2 ^ k ≤ w
  pub from_seen : (w : ℕ) → seen < w → bit_and seen w ≡ 0 → 2 ^ k ≤ w

level_start : Level 0 0 0
level_start = record { last_below = pow_pos 0; seen_below = pow_pos 0; from_last = λ w l a. l; from_seen = λ w l a. l }

same_order : (last seen k w : ℕ) → Level last seen k → bit_and seen w ≡ 0 → ltb last w ≡ ltb seen w
same_order last seen k w v a =
    iff_eq _ _
    (λ (h : ltb last w ≡ true). lt-ltb seen w (lt_of_lt_of_le v.seen_below (v.from_last w (ltb-true last w h) a)))
    (λ (h : ltb seen w ≡ true). lt-ltb last w (lt_of_lt_of_le v.last_below (v.from_seen w (ltb-true seen w h) a)))

follows_next : (m last seen k w : ℕ) → Level last seen k → follows m last seen w ≡ (next_above seen w && not (beyond m w))
unfolding follows next_above
follows_next m last seen k w v = go (eqb (bit_and seen w) 0) refl
  where
    clear : (a b : Bool) → (a && (b && true)) ≡ (a && true && b)
    clear true true = refl
    clear true false = refl
    clear false b = refl

    clashes : (a b c : Bool) → (a && (b && false)) ≡ (c && false && b)
    clashes true true true = refl
    clashes true true false = refl
    clashes true false true = refl
    clashes true false false = refl
    clashes false b true = refl
    clashes false b false = refl

    go : (b : Bool) → eqb (bit_and seen w) 0 ≡ b
        → (ltb last w && (not (beyond m w) && eqb (bit_and seen w) 0)) ≡ (ltb seen w && eqb (bit_and seen w) 0 && not (beyond m w))
    go true e =
        ap₂ (λ (x y : Bool). x && (not (beyond m w) && y)) (same_order last seen k w v (eqb-true (bit_and seen w) 0 e)) e
        ∙ clear (ltb seen w) (not (beyond m w)) ∙ sym (ap (λ (y : Bool). ltb seen w && y && not (beyond m w)) e)
    go false e =
        ap (λ (y : Bool). ltb last w && (not (beyond m w) && y)) e
        ∙ clashes (ltb last w) (not (beyond m w)) (ltb seen w) ∙ sym (ap (λ (y : Bool). ltb seen w && y && not (beyond m w)) e)

-- ---- one word more

module _ (last seen k w : ℕ) (v : Level last seen k) (small : w < 2 ^ 64) (next : next_above seen w ≡ true) where
  above : seen < w
  unfolding next_above
  above = ltb-true seen w (and_left (ltb seen w) _ next)

  avoids : bit_and seen w ≡ 0
  unfolding next_above
  avoids = eqb-true (bit_and seen w) 0 (and_right (ltb seen w) _ next)

  top : w / 2 ^ highest_bit w ≡ 1
  top = top_of_highest w (λ z. let no : ⊥ = omega (arith, above) in no) small

  seen_low : seen < 2 ^ highest_bit w
  seen_low = lt_of_lt_of_le v.seen_below (pow_mono (from_top k (highest_bit w) w (v.from_seen w above avoids) top))

  seen_top : with_top seen w / 2 ^ highest_bit w ≡ 1
  unfolding with_top
  seen_top =
      or_shr seen (2 ^ highest_bit w) (highest_bit w)
      ∙ ap₂ bit_or (below_shr (highest_bit w) seen seen_low) (power_top (highest_bit w))

  level_next : Level w (with_top seen w) (suc (highest_bit w))
  unfolding with_top
  level_next = record {
    last_below = top_below (highest_bit w) w top;
    seen_below = top_below (highest_bit w) (with_top seen w) seen_top;
    from_last = λ x l a. clear_above (highest_bit w) w x top l (and_or_pow_digit seen (highest_bit w) x a);
    from_seen = λ x l a. clear_above (highest_bit w) (with_top seen w) x seen_top l (and_or_pow_digit seen (highest_bit w) x a);
  }

  beyond_top : (m x : ℕ) → x / 2 ^ highest_bit w ≡ 1 → beyond m x ≡ leb m (highest_bit w)
  unfolding beyond
  beyond_top m x t =
      iff_eq _ _
      (λ (h : leb (2 ^ m) x ≡ true). le-leb m (highest_bit w) (from_top m (highest_bit w) x (leb-true (2 ^ m) x h) t))
      (λ (h : leb m (highest_bit w) ≡ true).
      le-leb (2 ^ m) x (le_trans (pow_mono (leb-true m (highest_bit w) h)) (top_least (highest_bit w) x t)))

  -- the bits so far are below m with w's highest bit exactly where they were and w is
  inside_next : (m : ℕ) → (not (beyond m seen) && not (beyond m w)) ≡ not (beyond m (with_top seen w))
  inside_next m = go (beyond m w) refl ∙ ap not (beyond_top m w top ∙ sym (beyond_top m (with_top seen w) seen_top))
    where
      none : (a : Bool) → (a && false) ≡ false
      none true = refl
      none false = refl

      go : (b : Bool) → beyond m w ≡ b → (not (beyond m seen) && not (beyond m w)) ≡ not (beyond m w)
      go true e = ap (λ (b : Bool). not (beyond m seen) && not b) e ∙ none (not (beyond m seen)) ∙ sym (ap not e)
      go false e = ap (λ (b : Bool). not b && not (beyond m w)) (not_beyond m seen (lt_trans above (within m w e)))

-- ---- the whole pass

and_assoc : (a b c : Bool) → (a && (b && c)) ≡ (a && b && c)
and_assoc true b c = refl
and_assoc false b c = refl

and_false : (a : Bool) → (a && false) ≡ false
and_false true = refl
and_false false = refl

and_true : (a : Bool) → (a && true) ≡ a
and_true true = refl
and_true false = refl

-- the pass from the word w on, where the pass from the next word on is known
tops_word : (m w : ℕ) (ws : List ℕ) (last seen k : ℕ) → w < 2 ^ 64 → Level last seen k
    → (Level w (with_top seen w) (suc (highest_bit w))
    → (not (beyond m (with_top seen w)) && one_pass m w (with_top seen w) ws) ≡ top_pass m (with_top seen w) ws)
    → (b : Bool) → next_above seen w ≡ b
    → (not (beyond m seen) && (next_above seen w && not (beyond m w) && one_pass m w (with_top seen w) ws))
    ≡ (next_above seen w && top_pass m (with_top seen w) ws)
tops_word m w ws last seen k small v later false e =
    ap (λ (b : Bool). not (beyond m seen) && (b && not (beyond m w) && one_pass m w (with_top seen w) ws)) e
    ∙ and_false (not (beyond m seen)) ∙ sym (ap (λ (b : Bool). b && top_pass m (with_top seen w) ws) e)
tops_word m w ws last seen k small v later true e =
    ap (λ (b : Bool). not (beyond m seen) && (b && not (beyond m w) && one_pass m w (with_top seen w) ws)) e
    ∙ and_assoc (not (beyond m seen)) (not (beyond m w)) (one_pass m w (with_top seen w) ws)
    ∙ ap (λ (b : Bool). b && one_pass m w (with_top seen w) ws) (inside_next last seen k w v small e m)
    ∙ later (level_next last seen k w v small e) ∙ sym (ap (λ (b : Bool). b && top_pass m (with_top seen w) ws) e)

tops_rest : (m : ℕ) (ws : List ℕ) (last seen k : ℕ) → ((i : ℕ) → get_or ws i 0 < 2 ^ 64) → Level last seen k
    → (not (beyond m seen) && one_pass m last seen ws) ≡ top_pass m seen ws
unfolding one_pass top_pass
tops_rest m [] last seen k small v = and_true (not (beyond m seen))
tops_rest m (w ∷ ws) last seen k small v =
    ap (λ (b : Bool). not (beyond m seen) && (b && one_pass m w (with_top seen w) ws)) (follows_next m last seen k w v)
    ∙ tops_word m w ws last seen k (small 0) v
    (λ l. tops_rest m ws w (with_top seen w) (suc (highest_bit w)) (λ i. small (suc i)) l) (next_above seen w) refl

pub tops_exactly : (m : ℕ) (ws : List ℕ) → ((i : ℕ) → get_or ws i 0 < 2 ^ 64) → is_reduced m ws ≡ top_pass m 0 ws
tops_exactly m ws small =
    reduced_exactly m ws small ∙ sym (ap (λ (b : Bool). not b && one_pass m 0 0 ws) (not_beyond m 0 (pow_pos m)))
    ∙ tops_rest m ws 0 0 0 small level_start

-- ---- the loop

pub Passed : List ℕ → ℕ → ℕ → Type 0
Passed ws seen i = (m : ℕ) → top_pass m 0 ws ≡ top_pass m seen (drop i ws)

module _ (ws : List ℕ) where
  pub passed_start : Passed ws 0 0
  unfolding Passed
  passed_start = λ m. refl

  pass_next : (m seen i : ℕ) → i < length ws
      → top_pass m seen (drop i ws) ≡ (next_above seen (get_or ws i 0) && top_pass m (with_top seen (get_or ws i 0)) (drop (i + 1) ws))
  unfolding top_pass
  pass_next m seen i h =
      ap (top_pass m seen) (drop-cons ws i 0 h)
      ∙ ap (λ (n : ℕ). next_above seen (get_or ws i 0) && top_pass m (with_top seen (get_or ws i 0)) (drop n ws)) (sym (add-one i))

  pub passed_turn : (seen seen' i w : ℕ) (b : Bool) → Passed ws seen i → i < length ws → w ≡ get_or ws i 0
      → b ≡ next_above seen w → not b ≡ false → seen' ≡ with_top seen w → Passed ws seen' (i + 1)
  unfolding Passed
  passed_turn seen seen' i w b p h same e n t =
      let go_on : next_above seen (get_or ws i 0) ≡ true = sym (e ∙ ap (next_above seen) same) ∙ not-false b n in
      let tops : with_top seen (get_or ws i 0) ≡ seen' = sym (t ∙ ap (with_top seen) same) in
      λ m. p m ∙ pass_next m seen i h ∙ ap₂ (λ (x : Bool) (y : ℕ). x && top_pass m y (drop (i + 1) ws)) go_on tops

  pub passed_stop : (seen i w : ℕ) (b : Bool) → Passed ws seen i → i < length ws → w ≡ get_or ws i 0
      → b ≡ next_above seen w → not b ≡ true → (m : ℕ) → false ≡ top_pass m 0 ws
  unfolding Passed
  passed_stop seen i w b p h same e n =
      let stop : next_above seen (get_or ws i 0) ≡ false = sym (e ∙ ap (next_above seen) same) ∙ not-true b n in
      λ m. sym
      (p m ∙ pass_next m seen i h
      ∙ ap (λ (x : Bool). x && top_pass m (with_top seen (get_or ws i 0)) (drop (i + 1) ws)) stop)

  pub passed_end : (seen i : ℕ) → Passed ws seen i → length ws ≤ i → (m : ℕ) → not (beyond m seen) ≡ top_pass m 0 ws
  unfolding Passed top_pass
  passed_end seen i p h = λ m. sym (p m ∙ ap (top_pass m seen) (drop_of_length-le ws h))
