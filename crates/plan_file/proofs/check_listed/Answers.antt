-- `check_listed` meets its contract: each way out by its law.
use borrow.Author.Rules.{rules}
use Rattle.plan_file.proofs.CallLaws.{checks_refused, checks_sound, checked_bits}
use Rattle.plan_file.proofs.check_listed.Goals as goal

pub returns-in_err-check_parts : goal.returns-in_err-check_parts
returns-in_err-check_parts c = checks_refused _ c.from_residual.result _ (search rules) c.in_err-check_parts.ensures

pub expected_bits-requires : goal.expected_bits-requires
expected_bits-requires c = checked_bits _ c.in_ok-check_parts.ensures

pub returns : goal.returns
returns c = checks_sound _ _ _ _ c.in_ok-check_parts.ensures c.width.ensures.0 c.count.ensures.0 c.expected_bits.ensures
