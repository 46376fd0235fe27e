-- `write_slices` meets its contract: short lists aren't what it is asked about, and either way to write does the same.
use native.Mathlib.Omega.{arith}
use lib.ListN.{length}
use Rattle.set_writer.proofs.WriteLaws.{not_short, both_inside, wide_known}
use Rattle.set_writer.proofs.write_slices.Goals as goal

pub returns-then-values-all : goal.returns-then-values-all
returns-then-values-all c =
    let args = c.args in
    λ hv hk. absurd (not_short args.values.now args.marks.now args.n args.s _ c.rows_length-all.ensures.0 hv hk c.if-values-all.true)

pub write_wide_slices-requires : goal.write_wide_slices-requires
write_wide_slices-requires c =
    let args = c.args in
    wide_known args.n args.s args.values.now args.marks.now args.out.now _ _ _ c.rows_length-all.ensures.0
    c.if-values-all.false c.row_bytes.ensures c.if-row_bytes-eq32.true c.tie_count_at.ensures c.if-out-tie_count_at.true

pub write_any_slices-requires : goal.write_any_slices-requires
write_any_slices-requires c =
    let args = c.args in
    let room = both_inside (length args.values.now) (length args.marks.now) _ c.if-values-all.false in
    let all = c.rows_length-all.ensures.0 in
    (omega (arith, room.0), omega (arith, room.1))
