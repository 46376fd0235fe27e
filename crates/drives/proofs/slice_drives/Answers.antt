use mathlib.Core.Path.{refl, sym, subst, ◌∙◌}
use Prim.Native.Nat.{ℕ, ◌*◌}
use native.Mathlib.Omega.{arith}
use borrow.Author.Rules.{rules}
use lib.ListN.{length}
use Rattle.std.proofs.lemmas.List.{length_push}
use Rattle.std.proofs.lemmas.Iterator.Consumers.{YieldsList-at, YieldsList-from_enumerate, YieldsList-turn, YieldsList-end}
use Rattle.byte_tables.specs.Table.{looked}
use Rattle.rows.proofs.PartLaws.{all_parts_given, part_turn, part_end}
use Rattle.drives.specs.Drives.{Added, marks_at}
use Rattle.drives.proofs.DriveLaws.{Driving, driving_starts, driving_turns, driving_ends}
use Rattle.drives.proofs.slice_drives.Goals as goal

pub loop-g-init : goal.loop-g-init
loop-g-init c =
    (refl, refl, driving_starts c.args.list.now c.args.rows c.args.spread.now _ _ (omega arith) refl)

pub loop-g-preserved : goal.loop-g-preserved
loop-g-preserved c =
    let args = c.args in
    let at = c.loop-g in
    let k = length at.yielded in
    let turn = part_turn 64 args.spread.now k c.in-Some.g c.in-Some.words.now
    (YieldsList-turn
    (YieldsList-at c.into_iter-g-iterator.ensures.into_iter_gives
    (YieldsList-from_enumerate (YieldsList-at c.enumerate-g-items.ensures.source (all_parts_given 64 args.spread.now (omega arith) c.chunks.ensures.rest c.chunks.ensures.size))
    c.enumerate-g-items.ensures.count))
    at.yielded _ at.yielded_by _ _ (c.in-Some.g, c.in-Some.words) c.in-Some.is c.next.ensures.steps) in (
      c.add_looked.ensures.long ∙ at.invariant.0,
      search rules,
      subst (λ (n : ℕ). Driving args.list.now args.rows args.spread.now c.min-count.result n c.add_looked.new.drives)
          (sym (length_push at.yielded (c.in-Some.g, c.in-Some.words)))
          (driving_turns args.list.now args.rows (λ i. (c.type_inv.list i).fits) args.spread.now c.in-Some.words.now _ _ _ _ k turn.2 c.fill_table.ensures at.invariant.2
          (subst (λ (g : ℕ). Added at.drives c.add_looked.new.drives c.min-count.result (λ t. looked c.fill_table.new.table (marks_at args.list.now args.rows (8 * g) t) 8)) turn.1 c.add_looked.ensures)),
    )

pub returns : goal.returns
returns c =
    let args = c.args in
    let at = c.loop-g in
    let all = part_end 64 args.spread.now (length at.yielded)
    (YieldsList-end
    (YieldsList-at c.into_iter-g-iterator.ensures.into_iter_gives
    (YieldsList-from_enumerate (YieldsList-at c.enumerate-g-items.ensures.source (all_parts_given 64 args.spread.now (omega arith) c.chunks.ensures.rest c.chunks.ensures.size))
    c.enumerate-g-items.ensures.count))
    at.yielded _ at.yielded_by _ _ c.in-None.is c.next.ensures.steps).1 in
    driving_ends args.list.now args.rows args.spread.now _ _ _ (length at.yielded) (omega arith) c.min-count.ensures at.invariant.2
