use mathlib.Core.Path.{sym}
use native.Mathlib.Omega.{arith}
use Rattle.word.proofs.FrontLaws.{front_nothing}
use Rattle.plan_file.proofs.CallLaws.{copy_turn, copy_end}
use Rattle.plan_file.proofs.copy_words.Goals as goal

pub loop-i-init : goal.loop-i-init
loop-i-init c =
    let counted = c.count-q.ensures.0 in
    let given = c.requires in
    (counted, omega (arith, counted, given.0), omega (arith, counted, given.1), sym (front_nothing _))

pub plan_word-requires : goal.plan_word-requires
plan_word-requires c = omega (arith, c.loop-i.invariant.1)

pub loop-i-preserved : goal.loop-i-preserved
loop-i-preserved c =
    let so_far = c.loop-i.invariant in
    (so_far.0, so_far.1, so_far.2, copy_turn _ _ _ _ _ _ so_far.3 so_far.0 so_far.2 (omega arith) c.plan_word.ensures)

pub returns : goal.returns
returns c = copy_end _ _ _ _ c.loop-i.i c.loop-i.invariant.3 c.loop-i.invariant.0 (omega arith) (omega arith)
