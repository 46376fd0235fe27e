-- How many words 64 slots hold. Assumes nothing.
use mathlib.Core.Path.{◌≡◌, refl, sym, ap, ap₂, ◌∙◌, subst}
use mathlib.Core.Logic.{⊎_elim}
use mathlib.Core.List.{List, [], ◌∷◌}
use Prim.Native.Nat.{ℕ, suc, ◌+◌, ◌-◌, ◌/◌, ◌%◌, ◌^◌, ◌<◌}
use native.Mathlib.Omega.{arith}
use lib.Count.{ones, ones_step}
use lib.ListN.{length}
use Rattle.word.proofs.Laws.{bit_cases, mod2_lt}
use Rattle.turned_words.specs.Turned.{kept}
use Rattle.turned_words.proofs.KeptLaws.{kept_none, kept_alive, kept_dead}

half_low : (n d : ℕ) → d < 2 ^ suc n → d / 2 < 2 ^ n
half_low n d h = omega arith

no_ones : length {A = ℕ} [] + ones 0 ≡ 0
unfolding ones
no_ones = refl

kept_count : (ws : List ℕ) (dead : ℕ) → dead < 2 ^ length ws → length (kept dead ws) + ones dead ≡ length ws
kept_count [] dead h =
    let none : dead ≡ 0 = omega arith in
    ap₂ (λ (l : List ℕ) (d : ℕ). length l + ones d) (kept_none dead) none ∙ no_ones
kept_count (w ∷ ws) dead h =
    let later : length (kept (dead / 2) ws) + ones (dead / 2) ≡ length ws = kept_count ws (dead / 2) (half_low (length ws) dead h) in
    ⊎_elim
    (λ (e : dead % 2 ≡ 0). ap (λ (l : List ℕ). length l + ones dead) (kept_alive dead w ws e) ∙ omega (arith, later, ones_step dead, e))
    (λ (e : dead % 2 ≡ 1). ap (λ (l : List ℕ). length l + ones dead) (kept_dead dead w ws e) ∙ omega (arith, later, ones_step dead, e))
    (bit_cases (dead % 2) (mod2_lt dead))

pub count_held : (dead : ℕ) → dead < 2 ^ 64 → (ws : List ℕ) → length ws ≡ 64 → 64 - ones dead ≡ length (kept dead ws)
count_held dead h ws e =
    let sum : length (kept dead ws) + ones dead ≡ length ws = kept_count ws dead (subst (λ (n : ℕ). dead < 2 ^ n) (sym e) h) in
    omega (arith, sum, e)
