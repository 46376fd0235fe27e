-- `is_beyond` meets its contract: a word of 64 bits is above the mask of the bits below m exactly from 2 ^ m on.
use mathlib.Core.Path.{◌≡◌, refl, ap, ◌∙◌}
use mathlib.Core.Bool.{Bool, true, false}
use mathlib.Core.Logic.{dite}
use Prim.Native.Nat.{ℕ, ◌^◌, ◌≤◌, ◌<◌}
use native.Mathlib.Decide.{dec_lt}
use native.Mathlib.Omega.{arith}
use native.Mathlib.Nat.{le_of_lt, min-eq_left, min-eq_right}
use lib.Dec.{leb, ltb}
use lib.Pow.{pow_pos, pow_mono}
use borrow.Author.Tests.{leb-true, leb-false, lt-ltb, le-ltb}
use borrow.Author.Rules.{rules}
use Rattle.word.specs.Word.{low_mask, beyond}
use Rattle.word.proofs.is_beyond.Goals as goal

-- a word from 2 ^ m on has more than m bits
mask_wide : (m w : ℕ) → w < 2 ^ 64 → 2 ^ m ≤ w → low_mask m < w
unfolding low_mask
mask_wide m w h e =
    dite (dec_lt m 64)
    (λ (l : m < 64). rw (min-eq_left (le_of_lt l)) (omega (arith, pow_pos m)))
    (λ (n : m < 64 → ⊥). let long : 64 ≤ m = omega (arith, n) in let high : 2 ^ 64 ≤ 2 ^ m = pow_mono long in let z : ⊥ = omega arith in absurd z)

mask_narrow : (m w : ℕ) → w < 2 ^ 64 → w < 2 ^ m → w ≤ low_mask m
unfolding low_mask
mask_narrow m w h e =
    dite (dec_lt m 64)
    (λ (l : m < 64). rw (min-eq_left (le_of_lt l)) (omega (arith, pow_pos m)))
    (λ (n : m < 64 → ⊥). let long : 64 ≤ m = omega (arith, n) in rw (min-eq_right long) (omega arith))

above_mask : (m w : ℕ) → w < 2 ^ 64 → ltb (low_mask m) w ≡ beyond m w
unfolding beyond
above_mask m w h = go (leb (2 ^ m) w) refl
  where
    go : (b : Bool) → leb (2 ^ m) w ≡ b → ltb (low_mask m) w ≡ b
    go true e = lt-ltb (low_mask m) w (mask_wide m w h (leb-true (2 ^ m) w e))
    go false e = le-ltb (low_mask m) w (mask_narrow m w h (leb-false (2 ^ m) w e))

pub returns : goal.returns
returns c = ap (λ (x : ℕ). ltb x c.args.w) c.low_mask.ensures ∙ above_mask c.args.m c.args.w (search rules)
