-- The rank of columns without a bit at or above the width m:
--
--   rank_through   it is the same where all columns go together through a map that is linear and takes no two words of the width to one
--   rank_front     columns more have at least the rank
--   rank_back      .. also where they stand before
-- Assumes nothing.
use mathlib.Core.Path.{◌≡◌, refl, sym, ap, ap₂, ◌∙◌}
use mathlib.Core.Bool.{Bool, true, false, cond, ◌||◌}
use mathlib.Core.List.{List, [], ◌∷◌, ◌++◌, map, map-append}
use Prim.Native.Nat.{ℕ, ◌+◌, ◌^◌, ◌<◌, ◌≤◌}
use native.Mathlib.Omega.{arith}
use borrow.Author.Tests.{eqb-true, eq-eqb, lt-leb}
use lib.Bits.{bit_xor, xor_lt, xor_self}
use lib.Dec.{eqb}
use lib.ListN.{length}
use lib.Pow.{pow_pos}
use Rattle.word.specs.Word.{beyond}
use Rattle.word.specs.Some.{any_of}
use Rattle.word.proofs.SomeLaws.{any_of_append}
use Rattle.word.proofs.BoolLaws.{iff_eq, or_false, or_false_left, or_false_right}
use Rattle.combinations.specs.Combination.{member, grown, rank_after, rank}
use Rattle.combinations.specs.Reduced.{reduced_list}
use Rattle.combinations.proofs.Theorems.{first_below, later_below, words_and_rank, portion_after}
use Rattle.combinations.proofs.Portions.{portion_before, steps_most}

-- ---- words within the width

none_within : (m : ℕ) → any_of (beyond m) [] ≡ false
unfolding any_of
none_within m = refl

cons_within : (m c : ℕ) (s : List ℕ) → c < 2 ^ m → any_of (beyond m) s ≡ false → any_of (beyond m) (c ∷ s) ≡ false
unfolding any_of beyond
cons_within m c s h b = or_false (beyond m c) (any_of (beyond m) s) (lt-leb (2 ^ m) c h) b

append_within : (m : ℕ) (s t : List ℕ) → any_of (beyond m) s ≡ false → any_of (beyond m) t ≡ false → any_of (beyond m) (s ++ t) ≡ false
append_within m s t a b = any_of_append (beyond m) s t ∙ or_false (any_of (beyond m) s) (any_of (beyond m) t) a b

pub front_within : (m : ℕ) (s t : List ℕ) → any_of (beyond m) (s ++ t) ≡ false → any_of (beyond m) s ≡ false
front_within m s t b = or_false_left (any_of (beyond m) s) (any_of (beyond m) t) (sym (any_of_append (beyond m) s t) ∙ b)

pub back_within : (m : ℕ) (s t : List ℕ) → any_of (beyond m) (s ++ t) ≡ false → any_of (beyond m) t ≡ false
back_within m s t b = or_false_right (any_of (beyond m) s) (any_of (beyond m) t) (sym (any_of_append (beyond m) s t) ∙ b)

shifted_within : (m c : ℕ) (s : List ℕ) → c < 2 ^ m → any_of (beyond m) s ≡ false → any_of (beyond m) (map (bit_xor c) s) ≡ false
unfolding any_of
shifted_within m c [] h b = refl
shifted_within m c (x ∷ s) h b =
    cons_within m (bit_xor c x) (map (bit_xor c) s) (xor_lt m c x h (first_below m x s b)) (shifted_within m c s h (later_below m x s b))

grown_within : (m c : ℕ) (s : List ℕ) → c < 2 ^ m → any_of (beyond m) s ≡ false → any_of (beyond m) (grown s c) ≡ false
unfolding grown
grown_within m c s h b = go (member c s)
  where
    go : (x : Bool) → any_of (beyond m) (cond x s (s ++ map (bit_xor c) s)) ≡ false
    go true = b
    go false = append_within m s (map (bit_xor c) s) b (shifted_within m c s h b)

-- ---- columns through a map

module _ (m : ℕ) (f : ℕ → ℕ) (linear : (a b : ℕ) → f (bit_xor a b) ≡ bit_xor (f a) (f b))
    (one-to-one : (a b : ℕ) → a < 2 ^ m → b < 2 ^ m → f a ≡ f b → a ≡ b) where
  zero_through : f 0 ≡ 0
  zero_through = linear 0 0 ∙ xor_self (f 0)

  member_through : (c : ℕ) (s : List ℕ) → c < 2 ^ m → any_of (beyond m) s ≡ false → member (f c) (map f s) ≡ member c s
  unfolding any_of
  member_through c [] h b = refl
  member_through c (x ∷ s) h b =
      ap₂ ◌||◌
      (iff_eq _ _
      (λ (e : eqb (f c) (f x) ≡ true). eq-eqb _ _ (one-to-one c x h (first_below m x s b) (eqb-true (f c) (f x) e)))
      (λ (e : eqb c x ≡ true). eq-eqb _ _ (ap f (eqb-true c x e))))
      (member_through c s h (later_below m x s b))

  shifted_through : (c : ℕ) (s : List ℕ) → map (bit_xor (f c)) (map f s) ≡ map f (map (bit_xor c) s)
  shifted_through c [] = refl
  shifted_through c (x ∷ s) = ap₂ ◌∷◌ (sym (linear c x)) (shifted_through c s)

  grown_through : (c : ℕ) (s : List ℕ) → c < 2 ^ m → any_of (beyond m) s ≡ false → grown (map f s) (f c) ≡ map f (grown s c)
  unfolding grown
  grown_through c s h b =
      ap₂ (λ (x : Bool) (l : List ℕ). cond x (map f s) (map f s ++ l)) (member_through c s h b) (shifted_through c s) ∙ go (member c s)
    where
      go : (x : Bool) → cond x (map f s) (map f s ++ map f (map (bit_xor c) s)) ≡ map f (cond x s (s ++ map (bit_xor c) s))
      go true = refl
      go false = sym (map-append f s (map (bit_xor c) s))

  after_through : (s cs : List ℕ) → any_of (beyond m) s ≡ false → any_of (beyond m) cs ≡ false → rank_after (map f s) (map f cs) ≡ rank_after s cs
  unfolding rank_after
  after_through s [] b bs = refl
  after_through s (c ∷ cs) b bs =
      let h : c < 2 ^ m = first_below m c cs bs in
      ap₂ (λ (x : Bool) (n : ℕ). cond x 0 1 + n) (member_through c s h b)
      (ap (λ (l : List ℕ). rank_after l (map f cs)) (grown_through c s h b)
      ∙ after_through (grown s c) cs (grown_within m c s h b) (later_below m c cs bs))

  pub rank_through : (cs : List ℕ) → any_of (beyond m) cs ≡ false → rank (map f cs) ≡ rank cs
  unfolding rank
  rank_through cs b =
      ap (λ (x : ℕ). rank_after (x ∷ []) (map f cs)) (sym zero_through)
      ∙ after_through (0 ∷ []) cs (cons_within m 0 [] (pow_pos m) (none_within m)) b

-- ---- columns more

pub rank_front : (m : ℕ) (cs ds : List ℕ) → any_of (beyond m) (cs ++ ds) ≡ false → rank cs ≤ rank (cs ++ ds)
rank_front m cs ds b =
    omega (arith, words_and_rank m (cs ++ ds) b, words_and_rank m cs (front_within m cs ds b), ap length (portion_after m cs ds), steps_most ds (reduced_list m cs))

pub rank_back : (m : ℕ) (cs ds : List ℕ) → any_of (beyond m) (cs ++ ds) ≡ false → rank ds ≤ rank (cs ++ ds)
rank_back m cs ds b =
    omega (arith, words_and_rank m (cs ++ ds) b, words_and_rank m ds (back_within m cs ds b), ap length (portion_before m cs ds), steps_most cs (reduced_list m ds))
