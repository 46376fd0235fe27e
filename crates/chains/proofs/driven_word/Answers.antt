use mathlib.Core.Path.{sym, ap, ◌∙◌}
use Prim.Native.Nat.{ℕ, ◌*◌}
use native.Mathlib.Omega.{arith}
use lib.ListN.{length}
use Rattle.std.proofs.lemmas.List.{length_push}
use Rattle.std.proofs.lemmas.Iterator.Consumers.{YieldsList-at, YieldsList-from_enumerate, YieldsList-turn, YieldsList-end}
use Rattle.numbers.specs.Bytes.{word_at}
use Rattle.rows.specs.Row.{cell}
use Rattle.rows.proofs.PartLaws.{all_parts_given, part_turn, part_end}
use Rattle.chains.specs.Driven.{driven}
use Rattle.chains.proofs.Laws.{driven_none, driven_turn, driven_ends}
use Rattle.chains.proofs.driven_word.Goals as goal

pub loop-i-init : goal.loop-i-init
loop-i-init c = sym (driven_none _ _)

pub loop-i-preserved : goal.loop-i-preserved
loop-i-preserved c =
    let ws = c.args.spread.now in
    let row = c.args.row.now in
    let at = c.loop-i in
    let k = length at.yielded in
    let turn = part_turn 64 ws k c.in-Some.i c.in-Some.words.now
    (YieldsList-turn
    (YieldsList-at c.into_iter-i-iterator.ensures.into_iter_gives
    (YieldsList-from_enumerate (YieldsList-at c.enumerate-i-items.ensures.source (all_parts_given 64 ws (omega arith) c.chunks.ensures.rest c.chunks.ensures.size)) c.enumerate-i-items.ensures.count))
    at.yielded _ at.yielded_by _ _ (c.in-Some.i, c.in-Some.words) c.in-Some.is c.next.ensures.steps) in
    driven_turn ws row c.in-Some.words.now (λ i. (c.type_inv.row i).fits) k _ _ _ at.invariant
    (c.read_word.ensures ∙ ap (λ (i : ℕ). word_at row (8 * i)) turn.1) (omega arith) turn.2 c.xor_marked-drive.ensures
    ∙ ap (λ (n : ℕ). driven ws (cell row) (64 * n)) (sym (length_push at.yielded (c.in-Some.i, c.in-Some.words)))

pub returns : goal.returns
returns c =
    let ws = c.args.spread.now in
    let at = c.loop-i in
    let all = part_end 64 ws (length at.yielded)
    (YieldsList-end
    (YieldsList-at c.into_iter-i-iterator.ensures.into_iter_gives
    (YieldsList-from_enumerate (YieldsList-at c.enumerate-i-items.ensures.source (all_parts_given 64 ws (omega arith) c.chunks.ensures.rest c.chunks.ensures.size)) c.enumerate-i-items.ensures.count))
    at.yielded _ at.yielded_by _ _ c.in-None.is c.next.ensures.steps).1 in
    driven_ends ws c.args.row.now (length at.yielded) _ (omega arith) at.invariant
