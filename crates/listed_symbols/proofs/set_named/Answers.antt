use mathlib.Core.Path.{sym, ap, ◌∙◌}
use Prim.Native.Nat.{◌<◌}
use native.Mathlib.Omega.{arith}
use Rattle.rows.specs.Row.{cell}
use Rattle.rows.proofs.MarkLaws.{total_none}
use Rattle.ties.specs.Ties.{ties_in}
use Rattle.listed_symbols.proofs.BeforeLaws.{cells_lt}
use Rattle.listed_symbols.proofs.HeadLaws.{set_starts, set_later, set_turns, set_ends}
use Rattle.listed_symbols.proofs.set_named.Goals as goal

pub loop-i-init : goal.loop-i-init
loop-i-init c = record {
  before = sym (total_none _);
  set = λ k count from flagged heads own. own ∙ sym (set_starts k _ (ties_in _ count) _);
}

pub loop-i-preserved-then-flagged-eq0 : goal.loop-i-preserved-then-flagged-eq0
loop-i-preserved-then-flagged-eq0 c =
    let args = c.args in
    let at = c.loop-i in
    let symbols = args.symbols in
    record {
      before = at.invariant.before;
      set = λ k count from flagged heads own.
          let h : at.i < count = omega (arith, c.count-i-end.ensures, from.numbered.long, from.within.few) in
          set_later k _ (ties_in symbols.ties.now count) _ (cells_lt args.list.now args.rows) heads _ h _ _ (c.word_at-flagged.ensures ∙ flagged _ h)
          (at.invariant.set k count from flagged heads own) c.if-flagged-eq0.true;
    }

pub loop-i-preserved : goal.loop-i-preserved
loop-i-preserved c =
    let args = c.args in
    let at = c.loop-i in
    let symbols = args.symbols in
    let rows = c.slices_before-before in
    let row = c.row_of-row in
    record {
      before = rows.ensures.0;
      set = λ k count from flagged heads own.
          let h : at.i < count = omega (arith, c.count-i-end.ensures, from.numbered.long, from.within.few) in
          set_turns k _ (ties_in symbols.ties.now count) _ (cells_lt args.list.now args.rows) heads _ h _ _ _ _ _ c.tie_slice-t.ensures rows.ensures.0
          (at.invariant.set k count from flagged heads own) (ap cell row.ensures) (c.set_symbol.ensures k count from h (c.word_at-flagged.ensures ∙ flagged _ h));
    }

pub returns : goal.returns
returns c k count from flagged heads own =
    let symbols = c.args.symbols in
    set_ends k _ (ties_in _ count) _ _ _ (omega (arith, c.count-i-end.ensures, from.numbered.long, from.within.few))
    (c.loop-i.invariant.set k count from flagged heads own)
