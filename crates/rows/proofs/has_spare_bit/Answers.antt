-- `has_spare_bit` meets its contract: the spare bits are the high bits of one byte.
use mathlib.Core.Path.{sym}
use borrow.Author.Rules.{rules}
use Rattle.rows.proofs.SpareLaws.{spare_set_byte}
use Rattle.rows.proofs.has_spare_bit.Goals as goal

pub returns : goal.returns
returns c =
    rw c.byte_at.ensures
    (sym (spare_set_byte c.args.n c.args.row.now (search rules)))
