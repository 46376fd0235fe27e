-- `check_parts` meets its contract: one test for each number, in the order of the list.
use mathlib.Core.Path.{◌≡◌, sym, ◌∙◌}
use mathlib.Core.Bool.{not}
use Prim.Native.Nat.{◌≤◌}
use Rattle.combinations.specs.Reduced.{is_reduced}
use Rattle.word.proofs.ReplyLaws.{refusals}
use Rattle.plan_file.specs.Layout.{file_width, file_count, file_words}
use Rattle.plan_file.specs.Checking.{plan_file_tests}
use Rattle.plan_file.proofs.TestLaws.{words_there, few_words}
use Rattle.plan_file.proofs.check_parts.Goals as goal
use Rattle.plan_file.proofs.check_parts.Goals.{Else-is_bad_plan_count}

-- past 19 and 20
few : (c : Else-is_bad_plan_count) → (1 ≤ file_count c.args.plan.now) × (file_count c.args.plan.now ≤ 64)
few c =
    let width_test = c.is_bad_plan_width.ensures in
    few_words _ (sym width_test ∙ c.if-is_bad_plan_width.false) (sym c.is_bad_plan_count.ensures ∙ c.if-is_bad_plan_count.false)

listed : (c : Else-is_bad_plan_count) → c.args.bad ≡ not (is_reduced (file_width c.args.plan.now) (file_words c.args.plan.now))
listed c =
    let there = words_there _ (sym c.is_bad_plan_count.ensures ∙ c.if-is_bad_plan_count.false) in
    c.requires (few c).1 there

pub returns-then-is_bad_plan_width : goal.returns-then-is_bad_plan_width
unfolding plan_file_tests
returns-then-is_bad_plan_width c = search refusals depth 20 fits 20000

pub returns-then-is_bad_plan_count : goal.returns-then-is_bad_plan_count
unfolding plan_file_tests
returns-then-is_bad_plan_count c = search refusals depth 20 fits 20000

pub returns-then-bad : goal.returns-then-bad
unfolding plan_file_tests
returns-then-bad c =
    let list = listed (goal.at.returns-then-bad c).Else-is_bad_plan_count in
    search refusals depth 20 fits 20000

pub is_bad_plan_end-requires : goal.is_bad_plan_end-requires
is_bad_plan_end-requires c = few (goal.at.is_bad_plan_end-requires c).Else-is_bad_plan_count

pub returns-then-is_bad_plan_end : goal.returns-then-is_bad_plan_end
unfolding plan_file_tests
returns-then-is_bad_plan_end c =
    let list = listed (goal.at.returns-then-is_bad_plan_end c).Else-is_bad_plan_count in
    search refusals depth 20 fits 20000

pub returns : goal.returns
unfolding plan_file_tests
returns c =
    let list = listed (goal.at.returns c).Else-is_bad_plan_count in
    search refusals depth 20 fits 20000
