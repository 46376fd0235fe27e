-- The marks of some rows together. Document 02, No. 8: "the joint marks".
--
--   joint_marks l r t c   1 where one of the first t of the rows r in the list l marks chain c, else 0
--   without w marks      the word w without the cells that are marked
--   UnmarkedWords l r t ws   four words have the cells that none of these rows marks, 64 chains each
--   JointWords l r t ws  four words have these marks, 64 chains each
use Rattle.std.specs.Prelude.{◌≡◌, List, ℕ, zero, suc, ◌+◌, ◌-◌, ◌*◌, ◌<◌, max, get_or}
use Rattle.std.specs.Int.Bits.{bit_xor, bit_and}
use Rattle.word.specs.Word.{digit}
use Rattle.rows.specs.Row.{Cells}
use Rattle.rows.specs.Lists.{cells_of}
use Rattle.rows.specs.declared.Rows.{Rows}

unfoldable pub without : ℕ → ℕ → ℕ
without w marks = bit_and w (bit_xor marks 18446744073709551615)

unfoldable pub joint_marks : List ℕ → Rows → ℕ → Cells
joint_marks l r zero c = 0
joint_marks l r (suc t) c = max (joint_marks l r t c) (cells_of l r t c)

abbrev pub UnmarkedWords : List ℕ → Rows → ℕ → List ℕ → Type 0
UnmarkedWords l r t ws = (i k : ℕ) → i < 4 → k < 64 → digit k (get_or ws i 0) ≡ 1 - joint_marks l r t (64 * i + k)

abbrev pub JointWords : List ℕ → Rows → ℕ → List ℕ → Type 0
JointWords l r t ws = (i k : ℕ) → i < 4 → k < 64 → digit k (get_or ws i 0) ≡ joint_marks l r t (64 * i + k)
