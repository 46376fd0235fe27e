use mathlib.Core.Path.{◌≡◌, ap}
use mathlib.Core.List.{List, ◌++◌}
use Prim.Native.Nat.{ℕ, ◌-◌, ◌*◌, ◌%◌, ◌^◌}
use native.Mathlib.Omega.{arith}
use lib.ListN.{drop}
use lib.Pow.{pow_pos}
use Rattle.marked_words.proofs.ListLaws.{Topped, highest_tops, top_power, taking_room, taking_starts, taking_turns, taking_ends}
use borrow.Author.Rules.{rules}
use Rattle.marked_words.proofs.list_from_last.Goals as goal
use Rattle.marked_words.proofs.list_from_last.Goals.{After-columns-1}

pub loop-left-init : goal.loop-left-init
loop-left-init c = (search rules, search rules, taking_starts _ _ _)

topped : (c : After-columns-1) → Topped c.loop-left.left c.highest_bit-top.result
topped c = highest_tops _ _ c.loop-left-test.true c.loop-left.invariant.0 c.highest_bit-top.ensures

power : (c : After-columns-1)
    → (1 * 2 ^ c.highest_bit-top.result) % 18446744073709551616 ≡ 2 ^ c.highest_bit-top.result
power c =
    let topped : Topped c.loop-left.left c.highest_bit-top.result = (highest_tops _ _ c.loop-left-test.true c.loop-left.invariant.0 c.highest_bit-top.ensures) in
    top_power c.loop-left.left c.highest_bit-top.result (topped)

pub overflow_shl-left : goal.overflow_shl-left
overflow_shl-left c = (topped (goal.at.overflow_shl-left c).After-columns-1).place

pub overflow_sub-left : goal.overflow_sub-left
overflow_sub-left c = omega (arith, power (goal.at.overflow_sub-left c).After-columns-1, (topped (goal.at.overflow_sub-left c).After-columns-1).least)

pub loop-left-smaller : goal.loop-left-smaller
loop-left-smaller c = omega (arith, power (goal.at.loop-left-smaller c).After-columns-1, (topped (goal.at.loop-left-smaller c).After-columns-1).least, pow_pos c.highest_bit-top.result)

pub loop-left-preserved : goal.loop-left-preserved
loop-left-preserved c =
    let at = c.loop-left in
    let args = c.args in
    let k =
    taking_turns args.words.now args.marks _ _ _ _ _ _ _ _ _ at.invariant.2 (topped (goal.at.loop-left-preserved c).After-columns-1) c.word_at.ensures (ap (λ (x : ℕ). at.left - x) (power (goal.at.loop-left-preserved c).After-columns-1)) c.put_last-place.ensures.value
    (ap (λ (x : List ℕ). x ++ drop at.place at.columns) c.put_last-place.ensures.columns_after) in
    (omega (arith, at.invariant.0), (taking_room _ _ _ _ _ _ k).1, k)

pub returns : goal.returns
returns c = let ends = taking_ends _ _ _ _ _ _ c.loop-left.invariant.2 (omega arith) in record { value = ends.0; columns_after = ends.1 }
