use Rattle.std.proofs.Common.{◌∙◌, [], ℕ, ap, arith}
use Rattle.register.specs.Circuit.{circuit}
use Rattle.unclocking.specs.Unclocked.{earlier}
use Rattle.unclocking.proofs.UnclockLaws.{earlier_none, earlier_turns}
use Rattle.unclocking.proofs.earlier_word.Goals as goal

pub loop-init : goal.loop-init
loop-init c = λ m t e. earlier_none _ _

pub loop-preserved : goal.loop-preserved
loop-preserved c = λ m t e. earlier_turns m t _ _ _ _ _ e (c.loop.invariant m t e) c.previous_word-word.ensures

pub returns : goal.returns
returns c = λ m t e. c.loop.invariant m t e ∙ ap (λ (x : ℕ). earlier (circuit m t 0 []) x c.args.w) (omega arith)
