-- `write_words_to_end` meets its contract: the words from place `w-index` on are left to be written.
use Rattle.written_numbers.proofs.WritingLaws.{WordsLeft}
use Rattle.written_numbers.proofs.write_words_to_end.Given as goal

abbrev pub invariant-loop-w : goal.invariant-loop-w
invariant-loop-w l = WordsLeft l.initial.out l.out l.words l.at l.i l.w-index
