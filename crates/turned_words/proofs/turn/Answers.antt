use mathlib.Core.Path.{refl}
use native.Mathlib.Omega.{arith}
use lib.ListN.{length-take}
use lib.Seq.{get_or-take}
use Prim.Native.Nat.{◌<◌}
use Rattle.turned_words.proofs.TurnedLaws.{turning_start, turning_turn, turning_end}
use Rattle.turned_words.proofs.turn.Goals as goal

pub loop-i-init : goal.loop-i-init
loop-i-init c = turning_start _ _ refl

pub loop-i-preserved : goal.loop-i-preserved
loop-i-preserved c =
    let ws = c.args.words.now in
    let low : c.loop-i.i < c.min.result = omega (arith, length-take c.min.result ws) in
    turning_turn _ _ _ _ c.loop-i.invariant (omega (arith, length-take c.min.result ws)) (rw (get_or-take c.min.result ws c.loop-i.i 0 low) at c.xor_into.ensures)

pub returns : goal.returns
returns c = turning_end _ _ _ c.loop-i.invariant (omega (arith, length-take c.min.result c.args.words.now))
