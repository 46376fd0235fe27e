-- A word written over a list's last place. Assumes nothing.
use mathlib.Core.Path.{◌≡◌, sym, ap, ◌∙◌}
use mathlib.Core.List.{List, [], ◌∷◌, ◌++◌}
use Prim.Native.Nat.{ℕ, suc, ◌-◌}
use native.Mathlib.Omega.{arith}
use lib.ListN.{length, take, set, drop_of_length-le}
use lib.Seq.{set_split}
use Rattle.marked_words.specs.Back.{back}
use Rattle.marked_words.proofs.BackLaws.{back_fits, back_empty}

module _ (l : List ℕ) (w : ℕ) where
  pub put_full : length l ≡ 0 → (0 ≡ length l - 1) × (l ≡ back (w ∷ []) l)
  put_full e = (omega arith, empty l e)
    where
      empty : (l : List ℕ) → length l ≡ 0 → l ≡ back (w ∷ []) l
      empty [] f = sym (back_empty (w ∷ []))
      empty (x ∷ l) f = let z : ⊥ = omega arith in absurd z

  pub put_one : (length l ≡ 0 → ⊥) → set l (length l - 1) w ≡ back (w ∷ []) l
  put_one e =
      set_split l (length l - 1) w (omega arith)
      ∙ ap (λ (r : List ℕ). take (length l - 1) l ++ w ∷ r) (drop_of_length-le l {i = suc (length l - 1)} (omega arith))
      ∙ sym (back_fits (w ∷ []) l (omega arith))
