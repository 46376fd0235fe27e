-- The text is that for the places lent. Assumes nothing.
use mathlib.Core.Path.{◌≡◌, ap, ap₂, ◌∙◌}
use mathlib.Core.List.{List}
use Prim.Native.Nat.{ℕ}
use lib.ListN.{length}
use Rattle.word.specs.Reply.{front}
use Rattle.plan_text.specs.PlanText.{plan_text, printed_text}

pub lent_places : (set cs ws l : List ℕ) (r : ℕ) (l' : List ℕ) → length cs ≡ 4096 → length ws ≡ 64 → r ≡ length (plan_text set (length cs) (length ws))
    → l' ≡ front (plan_text set (length cs) (length ws)) l → (r ≡ length (printed_text set)) × (l' ≡ front (printed_text set) l)
unfolding printed_text
lent_places set cs ws l r l' ec ew er el =
    let same : plan_text set (length cs) (length ws) ≡ plan_text set 4096 64 = ap₂ (plan_text set) ec ew in
    (er ∙ ap length same, el ∙ ap (λ (x : List ℕ). front x l) same)
