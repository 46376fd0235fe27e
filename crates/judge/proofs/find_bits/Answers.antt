-- `find_bits` meets its contract: each way out by its law.
use native.Mathlib.Omega.{arith}
use Rattle.judge.proofs.CallLaws.{found_none, found_all}
use Rattle.judge.proofs.find_bits.Goals as goal

pub returns-then-q-gt64 : goal.returns-then-q-gt64
returns-then-q-gt64 c = found_none c.args.plan.now (λ few there. omega (arith, c.count-q.ensures.0))

pub returns-then-plan-q : goal.returns-then-plan-q
returns-then-plan-q c = found_none c.args.plan.now (λ few there. omega (arith, c.count-q.ensures.0))

pub returns : goal.returns
returns c = found_all _ _ _ _ _ c.width-m.ensures.0 c.count-q.ensures.0 c.cancel_words.ensures
