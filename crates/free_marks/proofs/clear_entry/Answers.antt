-- `clear_entry` meets its contract: it clears the cell that the entry names, or nothing.
use Rattle.ties.specs.Ties.{ties_in}
use Rattle.ties.specs.Symbols.{names}
use Rattle.free_marks.proofs.ClearLaws.{entry_clears, entry_leaves}
use Rattle.free_marks.proofs.clear_entry.Goals as goal

pub returns-else-not-is_flagged : goal.returns-else-not-is_flagged
returns-else-not-is_flagged c k u d =
    let args = c.args in
    entry_leaves (names (ties_in args.ties.now k) args.i u d) _ _ _ c.word_at-is_flagged.ensures c.if-not-is_flagged.false

pub returns-then-not-is_flagged : goal.returns-then-not-is_flagged
returns-then-not-is_flagged c k u d =
    let args = c.args in
    entry_clears args.ties.now k args.i _ _ _ _ u d _ _ c.tie_slice.ensures c.tie_chain.ensures c.word_at-is_flagged.ensures c.if-not-is_flagged.true (c.clear_cell.ensures u d)
