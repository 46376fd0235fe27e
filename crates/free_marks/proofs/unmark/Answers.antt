use native.Mathlib.Omega.{arith}
use borrow.Author.Rules.{rules}
use Rattle.free_marks.proofs.ClearLaws.{entries_start, entries_turn, entries_end}
use Rattle.free_marks.proofs.unmark.Goals as goal

pub loop-i-init : goal.loop-i-init
loop-i-init c = (search rules, (λ t d. entries_start _ _))

pub loop-i-preserved : goal.loop-i-preserved
loop-i-preserved c =
    let at = c.loop-i in
    (search rules, (λ t d. entries_turn _ _ _ _ _ (at.invariant.1 t d) (c.clear_entry.ensures _ t d)))

pub returns : goal.returns
returns c hn hs eb t d h = entries_end _ _ _ _ _ _ (c.loop-i.invariant.1 t d) (omega arith) (c.copy_rows-copy.ensures hn hs eb t d h)
