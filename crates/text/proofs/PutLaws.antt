-- Bytes put one after the other: each piece begins where the one before ended, and together they are one piece. Assumes nothing.
use mathlib.Core.Path.{◌≡◌, refl, sym, ap, ap₂, ◌∙◌}
use mathlib.Core.Logic.{dite}
use mathlib.Core.List.{List, [], ◌++◌}
use Prim.Native.Nat.{ℕ, min, ◌+◌, ◌≤◌}
use native.Mathlib.Decide.{dec_le}
use native.Mathlib.Omega.{arith}
use lib.ListN.{length, length-append}
use lib.Seq.{sets, length-sets}
use Rattle.word.specs.Reply.{front}
use Rattle.numbers.proofs.ByteLaws.{sets_past_end, sets_append}
use Rattle.numbers.proofs.FileLaws.{front_sets}
use Rattle.text.specs.Text.{Put}

-- what would begin past the end is not written, and neither is what begins there
sets_held : (vs l : List ℕ) (i : ℕ) → sets l (min i (length l)) vs ≡ sets l i vs
sets_held vs l i =
    dite (dec_le i (length l))
    (λ (h : i ≤ length l). let same : min i (length l) ≡ i = omega arith in ap (λ (n : ℕ). sets l n vs) same)
    (λ (h : i ≤ length l → ⊥). sets_past_end vs l (min i (length l)) (omega arith) ∙ sym (sets_past_end vs l i (omega arith)))

pub put_then : {l : List ℕ} {at : ℕ} {a : List ℕ} {r : ℕ} {l₁ b : List ℕ} {r₂ : ℕ} {l₂ : List ℕ} → Put l at a r l₁ → Put l₁ r b r₂ l₂ → Put l at (a ++ b) r₂ l₂
put_then {l = l} {at = at} {a = a} {r = r} {l₁ = l₁} {b = b} p q =
    let long : length l₁ ≡ length l = ap length p.bytes ∙ length-sets l at a in
    let here : r ≡ min (at + length a) (length (sets l at a)) = omega (arith, p.place, length-sets l at a) in
    record {
      place = omega (arith, p.place, q.place, long, length-append a b);
      bytes =
          q.bytes ∙ ap₂ (λ (x : List ℕ) (n : ℕ). sets x n b) p.bytes here ∙ sets_held b (sets l at a) (at + length a)
          ∙ sym (sets_append a b l at);
    }

pub put_nothing : (l : List ℕ) (at r : ℕ) → r ≡ min (at + 0) (length l) → Put l at [] r l
put_nothing l at r e = record { place = e; bytes = refl }

-- what is put from the start of a list that has room for it stands at its front
pub put_front : {l : List ℕ} (vs : List ℕ) {r : ℕ} {l' : List ℕ} → Put l 0 vs r l' → length vs ≤ length l → (r ≡ length vs) × (l' ≡ front vs l)
put_front {l = l} vs p h = (omega (arith, p.place), p.bytes ∙ front_sets vs l h)
