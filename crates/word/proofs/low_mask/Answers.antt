-- `low_mask` meets its contract: below 64 the shift loses no bit.
use mathlib.Core.Path.{◌≡◌, ◌∙◌}
use Prim.Native.Nat.{ℕ, ◌*◌, ◌%◌, ◌^◌, ◌<◌}
use native.Mathlib.Nat.{one-mul, le_of_lt, min-eq_left, min-eq_right}
use native.Mathlib.Omega.{arith}
use lib.Dec.{lit<}
use lib.Pow.{pow_pos, shl_exact}
use Rattle.word.specs.Word.{low_mask}
use Rattle.word.proofs.low_mask.Goals as goal

-- 1 shifted by less than 64 stays whole
shifted : (m : ℕ) → m < 64 → (1 * 2 ^ m) % 2 ^ 64 ≡ 2 ^ m
shifted m h = shl_exact {a = 1} 1 m 64 (lit< tt) (omega arith) ∙ one-mul (2 ^ m)

pub overflow_sub-result : goal.overflow_sub-result
overflow_sub-result c = rw (shifted c.args.m c.if-m-lt64.true) (pow_pos c.args.m)

pub returns-then-m-lt64 : goal.returns-then-m-lt64
unfolding low_mask
returns-then-m-lt64 c = rw (shifted c.args.m c.if-m-lt64.true, min-eq_left (le_of_lt c.if-m-lt64.true))

pub returns-else-m-lt64 : goal.returns-else-m-lt64
unfolding low_mask
returns-else-m-lt64 c = rw (min-eq_right c.if-m-lt64.false)
