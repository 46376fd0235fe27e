-- `cancel_words` meets its contract: what the pass left decides.
use Rattle.judge.proofs.CallLaws.{pass_bad, pass_good}
use Rattle.judge.proofs.cancel_words.Goals as goal

pub returns-then-is_bad : goal.returns-then-is_bad
returns-then-is_bad c = pass_bad _ c.args.signature c.args.m c.args.q _ _ c.pass_words-pass.result.bits _ c.is_beyond.ensures c.pass_words-pass.ensures.list c.if-is_bad.true

pub returns : goal.returns
returns c = pass_good _ c.args.signature c.args.m c.args.q _ _ _ _ c.is_beyond.ensures c.pass_words-pass.ensures.list c.pass_words-pass.ensures.cancelled c.if-is_bad.false
