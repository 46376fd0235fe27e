-- `cells_before` meets its contract: the sum of the cells before chain c fits, and is their total.
use mathlib.Core.Path.{◌≡◌, refl, ◌∙◌}
use native.Mathlib.Omega.{arith}
use borrow.Author.Rules.{rules}
use Rattle.std.proofs.lemmas.Iterator.{YieldsList-from_range, YieldsList-from_map}
use Rattle.std.proofs.lemmas.Iterator.Consumers.{sum_from_yields_List, fits_from_yields_list}
use Rattle.rows.specs.Row.{cell}
use Rattle.rows.specs.Marks.{total}
use Rattle.listed_symbols.proofs.BeforeLaws.{cells_le, total_sum}
use Rattle.listed_symbols.proofs.cells_before.Goals as goal

pub sum-requires-clause-fits : goal.sum-requires-clause-fits
sum-requires-clause-fits c =
    let x = cell c.args.row.now in
    fits_from_yields_list c.map.result _ (YieldsList-from_map _ x (YieldsList-from_range 0 c.args.c c.args.c (cc) (omega arith)) c.map.ensures.closure (λ d r q k. search rules))
    (omega (arith, total_sum x c.args.c, cells_le c.args.row.now c.args.c _ refl))

pub returns : goal.returns
returns c =
    let x = cell c.args.row.now in
    let found : c.sum.result ≡ total c.args.c x =
    sum_from_yields_List c.map.result _ c.sum.ensures.ran (YieldsList-from_map _ x (YieldsList-from_range 0 c.args.c c.args.c (cc) (omega arith)) c.map.ensures.closure (λ d r q k. search rules))
    ∙ total_sum x c.args.c in
    (found, cells_le c.args.row.now c.args.c _ found)
