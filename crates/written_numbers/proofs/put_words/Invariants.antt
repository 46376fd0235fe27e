-- `put_words` meets its contract: the words from place `w-index` on are left to be written, and there is room for them.
use Prim.Native.Nat.{◌+◌, ◌*◌, ◌≤◌, ◌-◌}
use lib.ListN.{length}
use Rattle.written_numbers.proofs.WritingLaws.{WordsLeft}
use Rattle.written_numbers.proofs.put_words.Given as goal

abbrev pub invariant-loop-w : goal.invariant-loop-w
invariant-loop-w l = WordsLeft l.initial.out l.out l.words l.at l.i l.w-index × (l.i + 8 * (length l.words - l.w-index) ≤ length l.initial.out)
