-- `count_32` meets its contract: the four words of the part are those of the row.
use mathlib.Core.Path.{sym, ap, ◌∙◌}
use Prim.Native.Nat.{ℕ, ◌+◌, ◌*◌}
use lib.ListN.{take, drop}
use Rattle.rows.specs.Row.{cell}
use Rattle.rows.specs.Marks.{total}
use Rattle.marked_rows.proofs.CountLaws.{count_part}
use Rattle.marked_rows.proofs.count_32.Goals as goal

pub returns : goal.returns
returns c =
    c.count_words.ensures
    ∙ count_part c.args.list.now (λ j. (c.type_inv.list j).fits) (c.args.rows.at + c.args.rows.stride * c.args.t) _ _ _ _
    c.eight_bytes-a.ensures c.eight_bytes-b.ensures c.eight_bytes-c.ensures c.eight_bytes-d.ensures
    ∙ ap (λ (b : ℕ). total 256 (cell (take b (drop (c.args.rows.at + c.args.rows.stride * c.args.t) c.args.list.now)))) (sym c.requires.0)
