use mathlib.Core.Path.{refl, sym, ap, ◌∙◌}
use mathlib.Core.List.{List, ◌++◌}
use Prim.Native.Nat.{ℕ, ◌-◌, ◌*◌}
use native.Mathlib.Omega.{arith}
use borrow.Author.Tests.{ltb-true, ltb-false}
use lib.Count.{ones-le}
use lib.ListN.{drop}
use Rattle.marked_words.proofs.ListLaws.{marks_small, marks_inside}
use Rattle.marked_words.proofs.FitLaws.{fitting_room, fitting_starts, fitting_turns, fitting_stops, fitting_ends}
use borrow.Author.Rules.{rules}
use Rattle.marked_words.proofs.list_fitting.Goals as goal

pub loop-i-init : goal.loop-i-init
loop-i-init c = (search rules, fitting_starts _ _ _ _ (omega arith))

pub returns-then-is_too_many : goal.returns-then-is_too_many
returns-then-is_too_many c =
    let at = c.loop-i in
    let args = c.args in
    let small = marks_small args.words.now args.row.now (λ i. (c.type_inv.row i).fits) (at.i - 1) _ _ (omega arith) refl c.marks_at-marks.ensures in
    fitting_stops args.words.now args.row.now _ _ _ at.i _ _ at.invariant.1 (ones-le 64 _ small)
    (ltb-true _ _ (sym c.is_too_many.ensures ∙ c.if-is_too_many.true)) (omega arith)

pub list_word-place-requires : goal.list_word-place-requires
list_word-place-requires c =
    rw c.marks_at-marks.ensures (marks_inside c.args.words.now (64 * (c.loop-i.i - 1)) _ _ refl)

pub loop-i-preserved : goal.loop-i-preserved
loop-i-preserved c =
    let at = c.loop-i in
    let args = c.args in
    let listed = c.list_word-place in
    let k =
    fitting_turns args.words.now args.row.now (λ i. (c.type_inv.row i).fits) _ _ _ _ (omega arith) (omega arith) refl c.marks_at-marks.ensures refl _ _ _ _ _ at.invariant.1
    (ltb-false _ _ (sym c.is_too_many.ensures ∙ c.if-is_too_many.false)) listed.ensures.value
    (ap (λ (x : List ℕ). x ++ drop at.place at.columns) listed.ensures.columns_after) in
    ((fitting_room _ _ _ _ _ _ k).1, k)

pub returns : goal.returns
returns c = fitting_ends _ _ _ _ _ _ c.loop-i.invariant.1 (omega arith)
