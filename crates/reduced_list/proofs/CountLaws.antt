-- How many words a plan can have, as bounds. Assumes nothing.
use mathlib.Core.Path.{◌≡◌}
use mathlib.Core.Bool.{false}
use Prim.Native.Nat.{ℕ, ◌≤◌}
use borrow.Author.Tests.{ltb-false, le-ltb}
use lib.Dec.{ltb}
use Rattle.word.proofs.BoolLaws.{or_false_left, or_false_right}
use Rattle.reduced_list.specs.WordCount.{bad_word_count}

pub good_count : (m q : ℕ) → bad_word_count m q ≡ false → (1 ≤ q) × (q ≤ m)
unfolding bad_word_count
good_count m q h = (
  ltb-false q 1 (or_false_left (ltb q 1) (ltb m q) h),
  ltb-false m q (or_false_right (ltb q 1) (ltb m q) h),
)

pub not_bad_count : (m q : ℕ) → 1 ≤ q → q ≤ m → bad_word_count m q ≡ false
unfolding bad_word_count
not_bad_count m q a b = rw (le-ltb q 1 a, le-ltb m q b)
