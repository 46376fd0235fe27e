-- `list_word` meets its contract: without a mark nothing is written, and every way to write the words meets it.
use Prim.Native.Nat.{◌≤◌}
use lib.ListN.{length}
use Rattle.marked_words.proofs.ListLaws.{taking_starts, taking_ends}
use Rattle.marked_words.proofs.WholeLaws.{whole_fits, whole_listed}
use Rattle.marked_words.proofs.list_word.Goals as goal
use Rattle.marked_words.proofs.list_word.Goals.{Then-marks-eq18446744073709551615}

pub returns-then-marks-eq0 : goal.returns-then-marks-eq0
returns-then-marks-eq0 c =
    let args = c.args in
    let ends = taking_ends args.words.now args.marks _ _ _ _ (taking_starts _ _ args.columns.now) c.if-marks-eq0.true in
    record { value = ends.0; columns_after = ends.1 }

-- all 64 chains are marked: there are as many words and places
fits : (c : Then-marks-eq18446744073709551615) → (64 ≤ length c.args.columns.now) × (64 ≤ length c.args.words.now)
fits c =
    whole_fits c.args.words.now c.args.columns.now c.args.marks c.if-marks-eq18446744073709551615.true c.ranges.marks.fits c.requires c.if-columns-marks.false

pub list_whole-requires : goal.list_whole-requires
list_whole-requires c = let both = fits (goal.at.list_whole-requires c).Then-marks-eq18446744073709551615 in record { in_bounds = both.0; in_bounds_2 = both.1 }

pub returns-then-marks-eq18446744073709551615 : goal.returns-then-marks-eq18446744073709551615
returns-then-marks-eq18446744073709551615 c =
    let args = c.args in
    let long = (fits (goal.at.returns-then-marks-eq18446744073709551615 c).Then-marks-eq18446744073709551615).1 in
    let listed = whole_listed args.words.now args.columns.now _ _ args.marks c.if-marks-eq18446744073709551615.true long c.list_whole.ensures.value c.list_whole.ensures.columns_after in
    record { value = listed.0; columns_after = listed.1 }
