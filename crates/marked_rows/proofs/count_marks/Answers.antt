-- `count_marks` meets its contract: the sum of the rows' marks fits, and is their total.
use mathlib.Core.Path.{◌∙◌}
use Prim.Native.Nat.{ℕ}
use native.Mathlib.Omega.{arith}
use borrow.Author.Rules.{rules}
use Rattle.rows.specs.Lists.{cells_of}
use Rattle.rows.specs.Marks.{total}
use Rattle.marked_rows.proofs.LastLaws.{marks_le, total_sum}
use Rattle.std.proofs.lemmas.Iterator.{YieldsList-from_range, YieldsList-from_map}
use Rattle.std.proofs.lemmas.Iterator.Consumers.{sum_from_yields_List, fits_from_yields_list}
use Rattle.marked_rows.proofs.count_marks.Goals as goal

pub returns : goal.returns
returns c =
    let marks : ℕ → ℕ = λ t. total 256 (cells_of c.args.list.now c.args.rows t) in
    sum_from_yields_List c.map-2.result _ c.sum-2.ensures.ran (YieldsList-from_map _ marks (YieldsList-from_range 0 c.args.s c.args.s (cc) (omega arith)) c.map-2.ensures.closure (λ x r q k. search rules))
    ∙ total_sum marks c.args.s

pub sum-requires-2-clause-fits : goal.sum-requires-2-clause-fits
sum-requires-2-clause-fits c =
    let marks : ℕ → ℕ = λ t. total 256 (cells_of c.args.list.now c.args.rows t) in
    fits_from_yields_list c.map-2.result _ (YieldsList-from_map _ marks (YieldsList-from_range 0 c.args.s c.args.s (cc) (omega arith)) c.map-2.ensures.closure (λ x r q k. search rules))
    (omega (arith, total_sum marks c.args.s, marks_le c.args.list.now c.args.rows c.args.s))

pub returns-then-are_whole_32 : goal.returns-then-are_whole_32
returns-then-are_whole_32 c =
    let marks : ℕ → ℕ = λ t. total 256 (cells_of c.args.list.now c.args.rows t) in
    sum_from_yields_List c.map.result _ c.sum.ensures.ran (YieldsList-from_map _ marks (YieldsList-from_range 0 c.args.s c.args.s (cc) (omega arith)) c.map.ensures.closure (λ x r q k. search rules))
    ∙ total_sum marks c.args.s

pub sum-requires-clause-fits : goal.sum-requires-clause-fits
sum-requires-clause-fits c =
    let marks : ℕ → ℕ = λ t. total 256 (cells_of c.args.list.now c.args.rows t) in
    fits_from_yields_list c.map.result _ (YieldsList-from_map _ marks (YieldsList-from_range 0 c.args.s c.args.s (cc) (omega arith)) c.map.ensures.closure (λ x r q k. search rules))
    (omega (arith, total_sum marks c.args.s, marks_le c.args.list.now c.args.rows c.args.s))
