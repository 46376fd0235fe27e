use native.Mathlib.Omega.{arith}
use Rattle.written_numbers.proofs.WritingLaws.{writing_past, words_turn, words_end}
use Rattle.written_numbers.proofs.write_words_to_end.Goals as goal

pub returns-then-out-i : goal.returns-then-out-i
returns-then-out-i c = writing_past _ _ _ _ _ _ c.loop-w.invariant c.if-out-i.true

pub loop-w-preserved : goal.loop-w-preserved
loop-w-preserved c = words_turn _ _ _ _ _ _ _ c.loop-w.invariant (omega arith) c.write_word.ensures

pub returns : goal.returns
returns c = words_end _ _ _ _ _ _ c.loop-w.invariant (omega arith)
