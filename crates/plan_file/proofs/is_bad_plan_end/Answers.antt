-- `is_bad_plan_end` meets its contract: a plan of another length is refused, and in one of the exact length the bits end with it.
use Rattle.plan_file.proofs.TestLaws.{end_inexact, end_exact, end_known}
use Rattle.plan_file.proofs.is_bad_plan_end.Goals as goal

pub returns-then-plan-places : goal.returns-then-plan-places
returns-then-plan-places c = end_inexact _ _ c.count-q.ensures.0 c.if-plan-places.true

pub expected_bits-requires : goal.expected_bits-requires
expected_bits-requires c = end_known _ _ c.count-q.ensures.0 c.if-plan-places.false c.requires

pub returns : goal.returns
returns c =
    let counted = c.count-q.ensures.0 in
    end_exact _ _ _ _ _ counted c.if-plan-places.false c.read_count.ensures.0 c.expected_bits.ensures c.is_beyond.ensures
