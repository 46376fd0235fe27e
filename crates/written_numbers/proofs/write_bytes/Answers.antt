use Rattle.written_numbers.proofs.BytesLaws.{bytes_start, bytes_turn, bytes_end}
use Rattle.numbers.proofs.ByteLaws.{sets_past_end}
use native.Mathlib.Omega.{arith}
use mathlib.Core.Path.{sym}
use Rattle.written_numbers.proofs.write_bytes.Goals as goal

pub returns-then-out-at : goal.returns-then-out-at
returns-then-out-at c = sym (sets_past_end c.args.bytes.now _ _ c.if-out-at.true)

pub loop-i-init : goal.loop-i-init
loop-i-init c = bytes_start _ _ _

pub bounds-out-at : goal.bounds-out-at
bounds-out-at c = omega (arith, c.loop-i.invariant.long)

pub loop-i-preserved : goal.loop-i-preserved
loop-i-preserved c = bytes_turn _ _ _ _ _ c.loop-i.invariant (omega arith)

pub returns : goal.returns
returns c = bytes_end _ _ _ _ _ _ c.loop-i.invariant c.min-count.ensures (omega arith)
