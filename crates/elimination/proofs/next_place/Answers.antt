-- `next_place` meets its contract: it passes over no column, or over columns that leave the words as they are.
use Rattle.parity_table.proofs.SkipLaws.{skipped_steps, next_skipped, pays_few}
use Rattle.elimination.proofs.next_place.Goals as goal

pub returns-then-not-pays : goal.returns-then-not-pays
returns-then-not-pays c = skipped_steps _ _ _ _ c.skip_plainly.ensures

pub returns : goal.returns
returns c = next_skipped _ _ _ _ (pays_few _ _ _ c.pays.ensures c.if-not-pays.false) c.skip_even.ensures
