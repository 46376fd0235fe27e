use native.Mathlib.Omega.{arith}
use Rattle.written_numbers.proofs.WritingLaws.{words_turn, words_end}
use Rattle.written_numbers.proofs.put_words.Goals as goal

pub loop-w-preserved : goal.loop-w-preserved
loop-w-preserved c =
    let so_far = c.loop-w.invariant in
    (words_turn _ _ _ _ _ _ _ so_far.0 (omega arith) c.put_word.ensures, omega arith)

pub returns : goal.returns
returns c = words_end _ _ _ _ _ _ c.loop-w.invariant.0 (omega arith)
