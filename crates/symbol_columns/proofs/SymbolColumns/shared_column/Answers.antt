use mathlib.Core.Path.{◌∙◌}
use native.Mathlib.Omega.{arith}
use Rattle.ties.specs.Ties.{ties_in}
use Rattle.symbol_columns.proofs.SymbolLaws.{symbol_starts, symbol_added, symbol_passed, symbol_ends}
use Rattle.symbol_columns.proofs.SymbolColumns.shared_column.Goals as goal
use Rattle.symbol_columns.proofs.SymbolColumns.shared_column.Goals.{then-has, else-has}

pub loop-h-init : goal.loop-h-init
loop-h-init c k count from l ej o = symbol_starts _ _ _ _ o

pub loop-h-preserved : goal.loop-h-preserved
loop-h-preserved c k count from l ej o =
    let at = c.loop-h in
    let e = ties_in c.args.self.ties.now count in
    let before = at.invariant k count from l ej o in
    elim c.if-has.branch [
      | then-has w ↦
          w.sum-is
          ∙ symbol_added k _ e _ from.numbered c.args.i at.h _ _ (omega (arith, c.count-h-end.ensures, from.numbered.long, from.within.few)) ej before _ w.if-has.true
          (w.entry-sum.ensures k count from.powered from.within (omega (arith, c.count-h-end.ensures, from.numbered.long, from.within.few)))
      | else-has w ↦ w.sum-is ∙ symbol_passed k _ e _ from.numbered c.args.i at.h _ _ (omega (arith, c.count-h-end.ensures, from.numbered.long, from.within.few)) ej before w.if-has.false
    ]

pub returns : goal.returns
returns c k count from l ej o = symbol_ends _ _ _ _ _ _ (c.loop-h.invariant k count from l ej o) (omega (arith, c.count-h-end.ensures, from.numbered.long, from.within.few))
