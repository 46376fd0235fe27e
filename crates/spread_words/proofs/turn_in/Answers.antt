use mathlib.Core.Path.{refl}
use native.Mathlib.Omega.{arith}
use Rattle.spread_words.proofs.TurnLaws.{turned_start, turned_turn, turned_end}
use Rattle.spread_words.proofs.turn_in.Goals as goal

pub loop-i-init : goal.loop-i-init
loop-i-init c = turned_start _ _ _ c.unit_words-words.ensures

pub loop-i-preserved : goal.loop-i-preserved
loop-i-preserved c = turned_turn _ _ _ _ _ _ c.loop-i.invariant (omega (arith, c.requires.0.wide)) refl c.xor_into.ensures

pub invariant_of-result : goal.invariant_of-result
invariant_of-result c =
    let ends = turned_end _ _ _ _ c.requires.0 c.requires.1 c.loop-i.invariant (omega (arith, c.requires.0.wide)) (omega (arith, c.requires.0.wide)) in
    record { order = ends.0 }

pub returns : goal.returns
returns c =
    let ends = turned_end _ _ _ _ c.requires.0 c.requires.1 c.loop-i.invariant (omega (arith, c.requires.0.wide)) (omega (arith, c.requires.0.wide)) in
    record { dead = refl; list = ends.1 }
