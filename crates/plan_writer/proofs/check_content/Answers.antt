-- `check_content` meets its contract: one test for each number, in the order of the list.
use mathlib.Core.Path.{ap}
use mathlib.Core.Bool.{not}
use Rattle.word.proofs.ReplyLaws.{refusals}
use Rattle.plan_writer.specs.Writing.{plan_write_tests}
use Rattle.plan_writer.proofs.WriteLaws.{room_short, room_enough}
use Rattle.plan_writer.proofs.check_content.Goals as goal

pub returns-then-is_bad_width : goal.returns-then-is_bad_width
unfolding plan_write_tests
returns-then-is_bad_width c = search refusals depth 20 fits 20000

pub returns-then-is_bad_word_count : goal.returns-then-is_bad_word_count
unfolding plan_write_tests
returns-then-is_bad_word_count c = search refusals depth 20 fits 20000

pub returns-then-not-is_reduced : goal.returns-then-not-is_reduced
unfolding plan_write_tests
returns-then-not-is_reduced c =
    let listed = ap not c.is_reduced.ensures in
    search refusals depth 20 fits 20000

pub returns-then-is_beyond : goal.returns-then-is_beyond
unfolding plan_write_tests
returns-then-is_beyond c =
    let listed = ap not c.is_reduced.ensures in
    search refusals depth 20 fits 20000

pub returns-then-is_short : goal.returns-then-is_short
unfolding plan_write_tests
returns-then-is_short c =
    let listed = ap not c.is_reduced.ensures in
    let short = room_short _ _ _ c.plan_length.ensures c.if-is_short.true in
    search refusals depth 20 fits 20000

pub returns : goal.returns
unfolding plan_write_tests
returns c =
    let listed = ap not c.is_reduced.ensures in
    let enough = room_enough _ _ _ c.plan_length.ensures c.if-is_short.false in
    search refusals depth 20 fits 20000
