-- `has_spare_row` meets its contract: rows of whole bytes have no spare bit, and of the others each whole one is asked.
use mathlib.Core.Path.{sym, refl, ◌∙◌}
use native.Mathlib.Omega.{arith}
use borrow.Author.Tests.{tests}
use Rattle.std.proofs.Common.{rules}
use Rattle.std.proofs.lemmas.Iterator.{YieldsList-from_take}
use Rattle.std.proofs.lemmas.Iterator.Consumers.{YieldsList-at}
use Rattle.std.proofs.lemmas.Iterator.Search.{any_from_yields_List}
use Rattle.rows.specs.Row.{row_bytes, spare_set}
use Rattle.rows.proofs.RowLaws.{whole_rows}
use Rattle.rows.proofs.PartLaws.{parts_given, spare_parts}
use Rattle.rows.proofs.has_spare_row.Goals as goal

pub returns-then-n-eq0 : goal.returns-then-n-eq0
returns-then-n-eq0 c = sym (whole_rows _ _ _ c.if-n-eq0.true)

pub returns : goal.returns
returns c =
    any_from_yields_List (spare_set c.args.n) _ _ c.any.result c.any.ensures.ran
    (YieldsList-from_take c.args.count (YieldsList-at c.take.ensures.source
    (parts_given (row_bytes c.args.n) c.args.rows.now (omega arith) c.chunks_exact.ensures.rest (cc))) c.take.ensures.count)
    (λ x b q k. search (rules, tests))
    ∙ spare_parts c.args.n c.args.count c.args.rows.now _ (omega arith) refl
