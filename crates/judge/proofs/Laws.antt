-- What the crates above cite of judging, over the definitions:
--
--   passes_agrees   where the verdict passes, the cancelled bits are the expected bits
--   agrees_passes   .. and where they are, it passes
--   FailsAt         bit i of the cancelled bits differs from the expected one, and all lower bits agree
--   fails_first     where the verdict fails at i, that is so, and i is a word's index
-- Assumes nothing.
use mathlib.Core.Path.{◌≡◌, refl, sym, ap, ◌∙◌, subst}
use mathlib.Core.Bool.{Bool, true, false}
use mathlib.Core.List.{List, [], ◌∷◌}
use Prim.Native.Nat.{ℕ, zero, suc, ◌+◌, ◌^◌, ◌<◌, suc-le-suc}
use native.Mathlib.Nat.{le_refl, add-zero, zero-add, add-suc, suc-add, not-suc-le-zero, zero-lt-suc, le_of_suc-le-suc, lt_trans}
use native.Mathlib.Omega.{arith}
use borrow.Author.Tests.{eqb-true, eqb-false}
use lib.Bits.{bit_xor, xor_self}
use lib.Dec.{eqb}
use lib.ListN.{length, get_or}
use Rattle.word.specs.Word.{digit, parity}
use Rattle.word.specs.Parities.{parities}
use Rattle.word.proofs.Laws.{xor_zero_eq, parities_digit}
use Rattle.judge.specs.Verdict.{passes, fails_at, verdict_from, verdict}
use Rattle.judge.proofs.Verdicts.{Found, none, first, found, next_agrees, next_differs}

-- ---- passing

pub passes_agrees : (ws : List ℕ) (e y : ℕ) → e < 2 ^ length ws → verdict ws e y ≡ passes → parities ws y ≡ e
passes_agrees ws e y l h = go (found ws (length ws) e y (le_refl (length ws)) l)
  where
    go : Found 0 (length ws) (bit_xor (parities ws y) e) (verdict ws e y) → parities ws y ≡ e
    go (none d p) = xor_zero_eq (parities ws y) e d
    go (first n f) = let z : ◌≡◌ {A = ℕ} 0 1 = cc in let no : ⊥ = omega arith in absurd no

pub agrees_passes : (ws : List ℕ) (e y : ℕ) → parities ws y ≡ e → e < 2 ^ length ws → verdict ws e y ≡ passes
agrees_passes ws e y h l = go (found ws (length ws) e y (le_refl (length ws)) l)
  where
    go : Found 0 (length ws) (bit_xor (parities ws y) e) (verdict ws e y) → verdict ws e y ≡ passes
    go (none d p) = p
    go (first n f) = absurd (n (ap (λ (x : ℕ). bit_xor x e) h ∙ xor_self e))

-- ---- failing

-- the word at place j of ws, whose first is word i, disagrees, and the words before it agree
record FailsFrom (i j : ℕ) (ws : List ℕ) (e y : ℕ) : Type 0 where
  pub listed : j < length ws
  pub disagrees : parity (get_or ws j 0) y ≡ digit (i + j) e → ⊥
  pub before : (l : ℕ) → l < j → parity (get_or ws l 0) y ≡ digit (i + l) e

fails_here : (i w : ℕ) (ws : List ℕ) (e y : ℕ) → (parity w y ≡ digit i e → ⊥) → FailsFrom i 0 (w ∷ ws) e y
fails_here i w ws e y n =
    record {
      listed = zero-lt-suc (length ws);
      disagrees = λ h. n (h ∙ ap (λ (x : ℕ). digit x e) (add-zero i));
      before = λ l h. absurd (not-suc-le-zero h);
    }

fails_later : (i j w : ℕ) (ws : List ℕ) (e y : ℕ) → parity w y ≡ digit i e → FailsFrom (suc i) j ws e y → FailsFrom i (suc j) (w ∷ ws) e y
fails_later i j w ws e y h f =
    record {
      listed = suc-le-suc f.listed;
      disagrees = λ g. f.disagrees (g ∙ ap (λ (x : ℕ). digit x e) (add-suc i j ∙ sym (suc-add i j)));
      before = at;
    }
  where
    at : (l : ℕ) → l < suc j → parity (get_or (w ∷ ws) l 0) y ≡ digit (i + l) e
    at zero k = h ∙ ap (λ (x : ℕ). digit x e) (sym (add-zero i))
    at (suc l) k = f.before l (le_of_suc-le-suc k) ∙ ap (λ (x : ℕ). digit x e) (suc-add i l ∙ sym (add-suc i l))

fails_next : (i k w : ℕ) (ws : List ℕ) (e y : ℕ) (b : Bool) → eqb (parity w y) (digit i e) ≡ b → verdict_from i (w ∷ ws) e y ≡ fails_at k
    → (verdict_from (suc i) ws e y ≡ fails_at k → (j : ℕ) × (k ≡ suc i + j) × FailsFrom (suc i) j ws e y)
    → (j : ℕ) × (k ≡ i + j) × FailsFrom i j (w ∷ ws) e y
fails_next i k w ws e y true h v ih =
    let later = ih (sym (next_agrees i w ws e y h) ∙ v) in (
      suc later.0,
      later.1 ∙ suc-add i later.0 ∙ sym (add-suc i later.0),
      fails_later i later.0 w ws e y (eqb-true (parity w y) (digit i e) h) later.2,
    )
fails_next i k w ws e y false h v ih =
    let here : fails_at i ≡ fails_at k = sym (next_differs i w ws e y h) ∙ v in
    let same : i ≡ k = cc in
    (0, sym same ∙ sym (add-zero i), fails_here i w ws e y (eqb-false (parity w y) (digit i e) h))

no_verdict : (i e y : ℕ) → verdict_from i [] e y ≡ passes
unfolding verdict_from
no_verdict i e y = refl

passes_not_fails : (k : ℕ) → passes ≡ fails_at k → ⊥
passes_not_fails k h = let z : ◌≡◌ {A = ℕ} 0 1 = cc in omega arith

fails_from : (i k : ℕ) (ws : List ℕ) (e y : ℕ) → verdict_from i ws e y ≡ fails_at k → (j : ℕ) × (k ≡ i + j) × FailsFrom i j ws e y
fails_from i k [] e y v = absurd (passes_not_fails k (sym (no_verdict i e y) ∙ v))
fails_from i k (w ∷ ws) e y v =
    fails_next i k w ws e y (eqb (parity w y) (digit i e)) refl v (fails_from (suc i) k ws e y)

pub record FailsAt (i : ℕ) (ws : List ℕ) (e y : ℕ) : Type 0 where
  pub listed : i < length ws
  pub differs : digit i (parities ws y) ≡ digit i e → ⊥
  pub agrees : (j : ℕ) → j < i → digit j (parities ws y) ≡ digit j e

fails_at_lem : (i : ℕ) (ws : List ℕ) (e y : ℕ) → FailsFrom 0 i ws e y → FailsAt i ws e y
fails_at_lem i ws e y f =
    record {
      listed = f.listed;
      differs = λ h. f.disagrees (sym (parities_digit ws y i f.listed) ∙ h ∙ ap (λ (x : ℕ). digit x e) (sym (zero-add i)));
      agrees = λ j h.
          parities_digit ws y j (lt_trans h f.listed) ∙ f.before j h ∙ ap (λ (x : ℕ). digit x e) (zero-add j);
    }

pub fails_first : (i : ℕ) (ws : List ℕ) (e y : ℕ) → verdict ws e y ≡ fails_at i → FailsAt i ws e y
fails_first i ws e y v =
    let f = fails_from 0 i ws e y v in
    let same : f.0 ≡ i = sym (f.1 ∙ zero-add f.0) in
    subst (λ (j : ℕ). FailsAt j ws e y) same (fails_at_lem f.0 ws e y f.2)
