-- `taken_count` meets its contract; its product is one of two small numbers.
use native.Mathlib.Nat.{mul-le-mul_left, le_of_lt}
use native.Mathlib.Omega.{arith}
use Rattle.spread_words.proofs.taken_count.Goals as goal

pub overflow_mul-words : goal.overflow_mul-words
overflow_mul-words c = record { fits = omega (arith, mul-le-mul_left c.args.words (le_of_lt c.if-columns-ge-MOST_COLUMNS.false), c.if-words-gt64.false) }
