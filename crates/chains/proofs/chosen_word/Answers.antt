-- `chosen_word` meets its contract: a digit other than 0 chooses the word.
use mathlib.Core.Path.{◌≡◌, refl}
use Prim.Native.Nat.{ℕ, zero, suc}
use Rattle.chains.specs.Driven.{chosen}
use Rattle.chains.proofs.chosen_word.Goals as goal

not_zero : (d w : ℕ) → (d ≡ 0 → ⊥) → w ≡ chosen d w
not_zero zero w h = absurd (h refl)
not_zero (suc d) w h = refl

pub returns-else-digit-eq0 : goal.returns-else-digit-eq0
returns-else-digit-eq0 c = not_zero c.args.digit c.args.w c.if-digit-eq0.false
