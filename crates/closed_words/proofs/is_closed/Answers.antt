use mathlib.Core.Path.{refl}
use mathlib.Core.Bool.{false}
use Prim.Native.Nat.{min}
use Rattle.word.proofs.BoolLaws.{true_not_false}
use Rattle.closed_words.proofs.ClosedLaws.{closing_start, closing_turn, closing_end}
use borrow.Author.Rules.{rules}
use Rattle.closed_words.proofs.is_closed.Goals as goal

pub loop-w-init : goal.loop-w-init
loop-w-init c = closing_start _ _ _

pub loop-w-preserved : goal.loop-w-preserved
loop-w-preserved c =
    let at = c.loop-w in
    let args = c.args in
    closing_turn (min args.register.m 64) args.register.taps args.words.now at.w-index _ _ at.invariant c.transposed.ensures
    (c.residue.ensures args.words.now c.by_highest-tops.ensures) (search rules)

pub returns-then-residue-ne0 : goal.returns-then-residue-ne0
returns-then-residue-ne0 c = λ e. absurd (true_not_false false e refl)

pub returns : goal.returns
returns c =
    let args = c.args in
    λ e. closing_end (min args.register.m 64) args.register.taps args.words.now c.loop-w.w-index c.loop-w.invariant (search rules)
