-- `judge_signed` meets its contract: each way out by its law.
use mathlib.Core.Path.{refl}
use borrow.Author.Rules.{rules}
use Rattle.guarantee.proofs.WorkLaws.{signed_refused, signed_judged}
use Rattle.guarantee.proofs.judge_signed.Goals as goal

pub returns-in_err-signature : goal.returns-in_err-signature
returns-in_err-signature c =
    signed_refused _ _ c.args.plan.now _ c.in_err-signature.ensures c.from_residual.result _ (search rules) refl

pub returns : goal.returns
returns c = signed_judged _ _ c.args.plan.now _ c.in_ok-signature.ensures _ _ refl c.judge.ensures
