-- Portions of columns, beside portion_after (Theorems.antt). For a width m:
--
--   without_columns  without a column the words are those of single bits
--   order_alike      columns in another order, or more often, have the same reduced list
--   portion_before   .. so the second portion may also be the one that stands before the first
--   steps_stay       columns that take no word away leave the words as they are
-- Assumes nothing.
use mathlib.Core.Path.{◌≡◌, refl, sym, ap, ◌∙◌}
use mathlib.Core.Bool.{Bool, true, false, or_comm}
use mathlib.Core.Logic.{◌⊎◌, ⊎_elim}
use mathlib.Core.List.{List, [], ◌∷◌, ◌++◌}
use Prim.Native.Nat.{ℕ, ◌^◌, ◌<◌, ◌≤◌}
use native.Mathlib.Omega.{arith}
use borrow.Author.Tests.{eqb-true, eq-eqb}
use lib.Dec.{eqb}
use lib.ListN.{length}
use Rattle.word.specs.Word.{parity}
use Rattle.word.specs.Some.{any_of}
use Rattle.word.specs.Span.{is_xor_of}
use Rattle.word.proofs.SomeLaws.{any_of_append}
use Rattle.word.proofs.BoolLaws.{iff_eq, true_not_false, or_cases, or_true_left, or_true_right}
use Rattle.combinations.specs.Combination.{x_free, member}
use Rattle.combinations.specs.Reduced.{reduced_list}
use Rattle.combinations.specs.Step.{step, steps, units}
use Rattle.combinations.proofs.XFree.{x_free_cons, x_free_head, x_free_tail}
use Rattle.combinations.proofs.StepLaws.{step_same, step_less}
use Rattle.combinations.proofs.Tops.{tops_unique, span_below}
use Rattle.combinations.proofs.Listed.{listed_tops, listed_span}
use Rattle.combinations.proofs.Theorems.{kept_list, portion_after}

-- ---- no columns

pub without_columns : (m : ℕ) → units m ≡ reduced_list m []
unfolding steps
without_columns m = sym (kept_list m [])

-- ---- the order

same_member : (c : ℕ) (cs : List ℕ) → member c (c ∷ cs) ≡ true
unfolding any_of
same_member c cs = or_true_left (eqb c c) (member c cs) (eq-eqb c c refl)

later_member : (c d : ℕ) (cs : List ℕ) → member d cs ≡ true → member d (c ∷ cs) ≡ true
unfolding any_of
later_member c d cs h = or_true_right (eqb d c) (member d cs) h

member_cases : (c d : ℕ) (cs : List ℕ) → member d (c ∷ cs) ≡ true → (eqb d c ≡ true) ⊎ (member d cs ≡ true)
unfolding any_of
member_cases c d cs h = or_cases (eqb d c) (member d cs) h

no_member : (d : ℕ) → member d [] ≡ true → ⊥
unfolding any_of
no_member d h = true_not_false true refl (sym h)

-- a combination is X-free exactly when it is even with every column that the list has
even_members : (cs : List ℕ) (w : ℕ) → ((c : ℕ) → member c cs ≡ true → parity w c ≡ 0) → x_free cs w ≡ true
unfolding x_free
even_members [] w h = refl
even_members (c ∷ cs) w h = x_free_cons c cs w (h c (same_member c cs)) (even_members cs w (λ d l. h d (later_member c d cs l)))

member_even : (cs : List ℕ) (w c : ℕ) → x_free cs w ≡ true → member c cs ≡ true → parity w c ≡ 0
member_even [] w c h l = absurd (no_member c l)
member_even (d ∷ cs) w c h l =
    ⊎_elim (λ (e : eqb c d ≡ true). ap (parity w) (eqb-true c d e) ∙ x_free_head d cs w h)
    (λ (e : member c cs ≡ true). member_even cs w c (x_free_tail d cs w h) e) (member_cases d c cs l)

module _ (m : ℕ) (cs ds : List ℕ) (same : (c : ℕ) → member c cs ≡ member c ds) where
  free_alike : (w : ℕ) → x_free cs w ≡ x_free ds w
  free_alike w =
      iff_eq _ _ (λ (h : x_free cs w ≡ true). even_members ds w (λ c l. member_even cs w c h (same c ∙ l)))
      (λ (h : x_free ds w ≡ true). even_members cs w (λ c l. member_even ds w c h (sym (same c) ∙ l)))

  pub order_alike : reduced_list m cs ≡ reduced_list m ds
  order_alike =
      tops_unique m (listed_tops m cs) (listed_tops m ds)
      (λ y.
      iff_eq _ _
      (λ (h : is_xor_of (reduced_list m cs) y ≡ true).
      let l : y < 2 ^ m = span_below m (listed_tops m cs) y h in
      listed_span m ds y l ∙ sym (free_alike y) ∙ sym (listed_span m cs y l) ∙ h)
      (λ (h : is_xor_of (reduced_list m ds) y ≡ true).
      let l : y < 2 ^ m = span_below m (listed_tops m ds) y h in
      listed_span m cs y l ∙ free_alike y ∙ sym (listed_span m ds y l) ∙ h))

pub portion_before : (m : ℕ) (cs ds : List ℕ) → reduced_list m (cs ++ ds) ≡ steps cs (reduced_list m ds)
portion_before m cs ds =
    order_alike m (cs ++ ds) (ds ++ cs)
    (λ c. any_of_append (eqb c) cs ds ∙ or_comm (member c cs) (member c ds) ∙ sym (any_of_append (eqb c) ds cs))
    ∙ portion_after m ds cs

-- ---- columns that take no word away

step_most : (c : ℕ) (ws : List ℕ) → length (step c ws) ≤ length ws
step_most c ws = go (x_free ws c) refl
  where
    go : (b : Bool) → x_free ws c ≡ b → length (step c ws) ≤ length ws
    go true e = omega (arith, ap length (step_same c ws e))
    go false e = omega (arith, step_less c ws e)

pub steps_most : (cs ws : List ℕ) → length (steps cs ws) ≤ length ws
unfolding steps
steps_most [] ws = omega arith
steps_most (c ∷ cs) ws = omega (arith, steps_most cs (step c ws), step_most c ws)

pub steps_stay : (cs ws : List ℕ) → length (steps cs ws) ≡ length ws → steps cs ws ≡ ws
unfolding steps
steps_stay [] ws h = refl
steps_stay (c ∷ cs) ws h = go (steps_stay cs ws) (x_free ws c) refl
  where
    go : (length (steps cs ws) ≡ length ws → steps cs ws ≡ ws) → (b : Bool) → x_free ws c ≡ b → steps cs (step c ws) ≡ ws
    go later true e =
        let same : step c ws ≡ ws = step_same c ws e in
        ap (steps cs) same ∙ later (ap (λ (x : List ℕ). length (steps cs x)) (sym same) ∙ h)
    go later false e = let z : ⊥ = omega (arith, steps_most cs (step c ws), step_less c ws e) in absurd z
