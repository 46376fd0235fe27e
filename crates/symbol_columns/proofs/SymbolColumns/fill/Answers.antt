use mathlib.Core.Path.{refl, ◌∙◌}
use Prim.Native.Nat.{◌<◌}
use native.Mathlib.Omega.{arith}
use borrow.Author.Rules.{rules}
use Rattle.rows.specs.Marks.{listed}
use Rattle.ties.specs.Ties.{ties_in}
use Rattle.symbol_columns.proofs.FillLaws.{filled_starts, named_turns, named_ends, put_room}
use Rattle.symbol_columns.proofs.SymbolColumns.fill.Goals as goal

pub loop-i-init : goal.loop-i-init
loop-i-init c = (search rules, refl, (λ k count from flagged room. filled_starts _ _))

pub loop-i-preserved : goal.loop-i-preserved
loop-i-preserved c =
    let at = c.loop-i in
    let put = c.put_word-place in
    let read = c.word_at-flagged in
    let made = c.flagged_column-column in
    let room = put_room at.places _ (listed read.result made.result) _ _ put.ensures.places_after at.invariant.0 put.ensures.value in (
      room.1,
      room.0 ∙ at.invariant.1,
      (λ k count from flagged room.
          let h : at.i < count = omega (arith, c.count-i-end.ensures, from.numbered.long, from.within.few) in
          named_turns k _ (ties_in _ count) _ room _ _ _ _ _ _ h (at.invariant.2 k count from flagged room)
          (made.ensures k count from h (read.ensures ∙ flagged _ h)) put.ensures.places_after put.ensures.value),
    )

pub returns : goal.returns
returns c k count from flagged room = named_ends k _ (ties_in _ count) _ room _ _ _ (c.loop-i.invariant.2 k count from flagged room)
    (omega (arith, c.count-i-end.ensures, from.numbered.long, from.within.few))
