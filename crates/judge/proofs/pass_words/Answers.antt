use mathlib.Core.Path.{ap}
use mathlib.Core.Bool.{not}
use native.Mathlib.Omega.{arith}
use Rattle.word.proofs.Laws.{parity_lt}
use Rattle.plan_file.proofs.WordPlaces.{next_there}
use Rattle.judge.proofs.CallLaws.{cancelled_start, bits_room, cancelled_turn, pass_stops, pass_all}
use Rattle.judge.proofs.pass_words.Goals as goal

pub loop-i-init : goal.loop-i-init
loop-i-init c = cancelled_start _ _ _ c.requires

pub plan_word-w-requires : goal.plan_word-w-requires
plan_word-w-requires c = next_there _ _ _ _ c.loop-i.invariant.passed (omega arith)

pub returns-then-not-is_next : goal.returns-then-not-is_next
returns-then-not-is_next c =
    let bytes = c.type_inv.plan in
    let stops =
    pass_stops _ _ _ _ _ _ c.loop-i.invariant (λ i. (bytes i).fits) _ _ (omega arith) c.plan_word-w.ensures c.is_next.ensures (ap not c.if-not-is_next.true)
    in
    record { list = stops.0; cancelled = stops.1 }

pub overflow_shl-bits : goal.overflow_shl-bits
overflow_shl-bits c = omega (arith, c.loop-i.invariant.few)

pub overflow_add-bits : goal.overflow_add-bits
overflow_add-bits c =
    let so_far = c.loop-i.invariant in
    omega (arith, bits_room _ _ _ _ _ _ so_far (omega arith) c.shared_parity.result (rw c.shared_parity.ensures (parity_lt _ _)))

pub loop-i-preserved : goal.loop-i-preserved
loop-i-preserved c =
    let so_far = c.loop-i.invariant in
    cancelled_turn _ _ _ _ _ _ so_far _ _ _ _ (omega arith) c.plan_word-w.ensures c.is_next.ensures (ap not c.if-not-is_next.false) c.with_highest-tops.ensures c.shared_parity.ensures

pub returns : goal.returns
returns c =
    let bytes = c.type_inv.plan in
    let all = pass_all _ _ _ _ _ _ c.loop-i.invariant (λ i. (bytes i).fits) (omega arith) in
    record { list = all.0; cancelled = all.1 }
