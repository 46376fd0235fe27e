-- The highest bits so far, with one word's more. Assumes nothing.
use mathlib.Core.Path.{◌≡◌, ap, ◌∙◌}
use Prim.Native.Nat.{ℕ, ◌*◌, ◌%◌, ◌^◌, ◌<◌}
use native.Mathlib.Omega.{arith}
use lib.Bits.{bit_or}
use Rattle.word.specs.Word.{highest_bit}
use Rattle.combinations.specs.Pass.{with_top}
use Rattle.combinations.proofs.Units.{one_bit}

pub with_top_bit : (seen w h : ℕ) → h ≡ highest_bit w → bit_or seen ((1 * 2 ^ h) % 18446744073709551616) ≡ with_top seen w
unfolding with_top highest_bit
with_top_bit seen w h e =
    ap (bit_or seen) (one_bit h (omega arith) ∙ ap (λ (x : ℕ). 2 ^ x) e)

pub highest_small : (w h : ℕ) → h ≡ highest_bit w → h < 64
unfolding highest_bit
highest_small w h e = omega arith
