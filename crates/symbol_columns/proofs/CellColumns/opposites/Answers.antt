use mathlib.Core.Path.{◌∙◌}
use native.Mathlib.Omega.{arith}
use Rattle.ties.specs.Ties.{ties_in}
use Rattle.symbol_columns.proofs.SymbolLaws.{opposites_start, opposite_added, opposite_passed, opposites_end}
use Rattle.symbol_columns.proofs.CellColumns.opposites.Goals as goal
use Rattle.symbol_columns.proofs.CellColumns.opposites.Goals.{then-is_opposite, else-is_opposite}

pub loop-i-init : goal.loop-i-init
loop-i-init c k p inside = opposites_start k _ (ties_in c.args.ties.now c.args.count)

pub loop-i-preserved : goal.loop-i-preserved
loop-i-preserved c k p inside =
    let at = c.loop-i in
    let side = c.tie_side-is_opposite in
    let e = ties_in c.args.ties.now c.args.count in
    elim c.if-is_opposite.branch [
      | then-is_opposite w ↦
          w.sum-is ∙ opposite_added k _ e at.i _ _ _ side.ensures w.if-is_opposite.true (at.invariant k p inside) (w.entry-sum.ensures k c.args.count p inside (omega arith))
      | else-is_opposite w ↦ w.sum-is ∙ opposite_passed k _ e at.i _ _ side.ensures w.if-is_opposite.false (at.invariant k p inside)
    ]

pub returns : goal.returns
returns c k p inside = opposites_end k _ (ties_in c.args.ties.now c.args.count) _ _ (c.loop-i.invariant k p inside) (omega arith)
