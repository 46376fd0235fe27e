-- `judge` meets its contract: each way out by its law.
use borrow.Author.Rules.{rules}
use Rattle.judge.proofs.CallLaws.{found_listed, judged_unsound, bits_there, judged_beyond, judged_passes, judged_fails}
use Rattle.judge.proofs.judge.Goals as goal

pub check_listed-requires : goal.check_listed-requires
check_listed-requires c = found_listed _ c.args.signature c.find_bits-found.result _ c.is_none.ensures c.find_bits-found.ensures

pub returns-in_err-head : goal.returns-in_err-head
returns-in_err-head c = judged_unsound _ _ c.from_residual.result _ (search rules) c.in_err-head.ensures

pub returns-then-is_beyond : goal.returns-then-is_beyond
returns-then-is_beyond c =
    judged_beyond _ _ _ c.in_ok-head.ensures _ c.find_bits-found.ensures _ c.is_beyond.ensures c.if-is_beyond.true

pub unwrap-cancelled-requires : goal.unwrap-cancelled-requires
unwrap-cancelled-requires c = bits_there _ c.args.signature _ c.in_ok-head.ensures _ c.find_bits-found.ensures

pub returns-then-agrees : goal.returns-then-agrees
returns-then-agrees c =
    judged_passes _ _ _ c.in_ok-head.ensures _ c.find_bits-found.ensures _ c.is_beyond.ensures c.if-is_beyond.false _ c.unwrap-cancelled.ensures c.if-agrees.true

pub returns-else-agrees : goal.returns-else-agrees
returns-else-agrees c =
    judged_fails _ _ _ c.in_ok-head.ensures _ c.find_bits-found.ensures _ c.is_beyond.ensures c.if-is_beyond.false _ c.unwrap-cancelled.ensures c.if-agrees.false _ c.from.ensures
