-- `list_by` meets its contract. The loop's invariant: the words of the chains from 64 times `i` on stand at the list's end, of whichever row
-- the closure gives the marks.
use mathlib.Core.Path.{◌≡◌}
use mathlib.Core.List.{List}
use Prim.Native.Nat.{ℕ, ◌-◌, ◌*◌, ◌≤◌, ◌<◌}
use lib.Bits.{bit_and}
use lib.ListN.{length, get_or}
use Rattle.word.specs.Word.{low_mask}
use Rattle.numbers.specs.Bytes.{word_at}
use Rattle.marked_words.proofs.ListLaws.{Listing}
use Rattle.marked_words.proofs.list_by.Given as goal

abbrev pub invariant-loop-i : goal.invariant-loop-i
invariant-loop-i g l =
    (l.place ≤ length l.columns)
    × ((row : List ℕ) → ((j : ℕ) → get_or row j 0 < 256)
    → ((i marks : ℕ) → 64 * i < length l.words → goal.F-post g l.marks_of i marks → marks ≡ bit_and (word_at row (8 * i)) (low_mask (length l.words - 64 * i)))
    → Listing l.words row l.initial.columns l.columns l.place (64 * l.i))
