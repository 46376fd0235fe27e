-- A line is put piece by piece: its name, then its numbers, each with what ends it. And the start, turn and end of the loop over the
-- words. Assumes nothing.
use mathlib.Core.Path.{◌≡◌, refl, sym, ap, ◌∙◌, subst}
use mathlib.Core.List.{List, [], ◌∷◌, ◌++◌, append_assoc}
use Prim.Native.Nat.{ℕ, suc, min, ◌+◌, ◌/◌, ◌%◌, ◌^◌, ◌<◌, ◌≤◌}
use native.Mathlib.Numerals.{add-one}
use native.Mathlib.Omega.{arith}
use lib.ListN.{length, get_or, drop, drop_of_length-le}
use lib.Pow.{shr-shr}
use lib.Seq.{drop-cons}
use Rattle.word.specs.Word.{digit}
use Rattle.text.specs.Text.{decimal, Put}
use Rattle.text.proofs.PutLaws.{put_then, put_nothing}
use Rattle.plan_lines.specs.Lines.{sp, newline, set_line, word_line, word_lines, end_line, refused_line}

-- a number and what ends it, after what stands before them
number_put : {l : List ℕ} {at : ℕ} {a : List ℕ} {r : ℕ} {l₁ : List ℕ} (d e : List ℕ) {r₂ : ℕ} {l₂ : List ℕ}
    → Put l at a r l₁ → Put l₁ r (d ++ e) r₂ l₂ → Put l at (a ++ d ++ e) r₂ l₂
number_put {l = l} {at = at} {a = a} d e {r₂ = r₂} {l₂ = l₂} p q =
    subst (λ (x : List ℕ). Put l at x r₂ l₂) (sym (append_assoc a d e)) (put_then p q)

pub set_line_put : {l : List ℕ} {at : ℕ} (m n s u : ℕ) {r₁ r₂ r₃ r₄ r₅ : ℕ} {l₁ l₂ l₃ l₄ l₅ : List ℕ} → Put l at (115 ∷ 101 ∷ 116 ∷ 32 ∷ []) r₁ l₁
    → Put l₁ r₁ (decimal m ++ sp) r₂ l₂ → Put l₂ r₂ (decimal n ++ sp) r₃ l₃ → Put l₃ r₃ (decimal s ++ sp) r₄ l₄
    → Put l₄ r₄ (decimal u ++ newline) r₅ l₅ → Put l at (set_line m n s u) r₅ l₅
unfolding set_line
set_line_put m n s u p p₂ p₃ p₄ p₅ =
    number_put (decimal u) newline (number_put (decimal s) sp (number_put (decimal n) sp (number_put (decimal m) sp p p₂) p₃) p₄) p₅

pub word_line_put : {l : List ℕ} {at : ℕ} (i w b : ℕ) {r₁ r₂ r₃ r₄ : ℕ} {l₁ l₂ l₃ l₄ : List ℕ} → Put l at (119 ∷ 111 ∷ 114 ∷ 100 ∷ 32 ∷ []) r₁ l₁
    → Put l₁ r₁ (decimal i ++ sp) r₂ l₂ → Put l₂ r₂ (decimal w ++ sp) r₃ l₃ → Put l₃ r₃ (decimal b ++ newline) r₄ l₄ → Put l at (word_line i w b) r₄ l₄
unfolding word_line
word_line_put i w b p p₂ p₃ p₄ =
    number_put (decimal b) newline (number_put (decimal w) sp (number_put (decimal i) sp p p₂) p₃) p₄

pub end_line_put : {l : List ℕ} {at : ℕ} (q : ℕ) {r₁ r₂ : ℕ} {l₁ l₂ : List ℕ} → Put l at (101 ∷ 110 ∷ 100 ∷ 32 ∷ []) r₁ l₁
    → Put l₁ r₁ (decimal q ++ newline) r₂ l₂ → Put l at (end_line q) r₂ l₂
unfolding end_line
end_line_put q p p₂ = number_put (decimal q) newline p p₂

pub refused_line_put : {l : List ℕ} {at : ℕ} (n : ℕ) {r₁ r₂ : ℕ} {l₁ l₂ : List ℕ} → Put l at (114 ∷ 101 ∷ 102 ∷ 117 ∷ 115 ∷ 101 ∷ 100 ∷ 32 ∷ []) r₁ l₁
    → Put l₁ r₁ (decimal n ++ newline) r₂ l₂ → Put l at (refused_line n) r₂ l₂
unfolding refused_line
refused_line_put n p p₂ = number_put (decimal n) newline p p₂

-- ---- the loop over the words

-- before word i: what the lines from it on make of the list is what all lines make of the list at the start
abbrev pub Lining : List ℕ → ℕ → List ℕ → ℕ → List ℕ → ℕ → ℕ → ℕ → Type 0
Lining l₀ at ws e l place bits i =
    (place ≤ length l)
    × (bits ≡ e / 2 ^ i)
    × ((r : ℕ) (l' : List ℕ) → Put l place (word_lines i (drop i ws) e) r l' → Put l₀ at (word_lines 0 ws e) r l')

pub lining_start : (l : List ℕ) (at : ℕ) (ws : List ℕ) (e place : ℕ) → place ≡ min at (length l) → Lining l at ws e l place e 0
lining_start l at ws e place h = (omega arith, omega arith, λ r l' p. put_then (put_nothing l at place (omega arith)) p)

next_line : (ws : List ℕ) (e i : ℕ) → i < length ws → word_lines i (drop i ws) e ≡ word_line i (get_or ws i 0) (digit i e) ++ word_lines (suc i) (drop (suc i) ws) e
unfolding word_lines
next_line ws e i h = ap (λ (x : List ℕ). word_lines i x e) (drop-cons ws i 0 h)

no_line : (i e : ℕ) → word_lines i [] e ≡ []
unfolding word_lines
no_line i e = refl

pub lining_turn : (l₀ : List ℕ) (at : ℕ) (ws : List ℕ) (e : ℕ) (l : List ℕ) (place bits i : ℕ) (l₁ : List ℕ) (next : ℕ) → Lining l₀ at ws e l place bits i → i < length ws
    → length l₁ ≡ length l → Put l place (word_line i (get_or ws i 0) (bits % 2)) next l₁ → Lining l₀ at ws e l₁ next (bits / 2) (i + 1)
lining_turn l₀ at ws e l place bits i l₁ next inv h long p =
    subst (Lining l₀ at ws e l₁ next (bits / 2)) (sym (add-one i)) (
      omega (arith, p.place, long),
      ap (◌/ 2) inv.1 ∙ shr-shr e i 1 ∙ ap (λ (n : ℕ). e / 2 ^ n) (add-one i),
      λ r l' q.
          inv.2 r l'
          (subst (λ (x : List ℕ). Put l place x r l')
          (ap (λ (b : ℕ). word_line i (get_or ws i 0) (b % 2) ++ word_lines (suc i) (drop (suc i) ws) e) inv.1 ∙ sym (next_line ws e i h))
          (put_then p q)),
    )

pub lining_end : (l₀ : List ℕ) (at : ℕ) (ws : List ℕ) (e : ℕ) (l : List ℕ) (place bits i : ℕ) → Lining l₀ at ws e l place bits i → length ws ≤ i
    → Put l₀ at (word_lines 0 ws e) place l
lining_end l₀ at ws e l place bits i inv h =
    inv.2 place l
    (subst (λ (x : List ℕ). Put l place x place l)
    (sym (ap (λ (x : List ℕ). word_lines i x e) (drop_of_length-le ws h) ∙ no_line i e)) (put_nothing l place place (omega (arith, inv.0))))
