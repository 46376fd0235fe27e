use mathlib.Core.Path.{refl}
use native.Mathlib.Omega.{arith}
use borrow.Author.Rules.{rules}
use Rattle.rows.proofs.CellLaws.{place_small}
use Rattle.free_marks.proofs.CopyLaws.{copied_starts, rows_turn, rows_end}
use Rattle.free_marks.proofs.copy_rows.Goals as goal

pub loop-t-init : goal.loop-t-init
loop-t-init c = (refl, (λ hn hs eb. copied_starts _ _ _ 16384 refl))

pub overflow_mul-bytes : goal.overflow_mul-bytes
overflow_mul-bytes c = record { fits = omega (arith, place_small c.row_bytes-bytes.result c.loop-t.t (omega arith) (omega arith)) }

pub loop-t-preserved : goal.loop-t-preserved
loop-t-preserved c =
    let at = c.loop-t in
    let args = c.args in
    let row = c.row_of-row in (
      search rules,
      (λ hn hs eb.
          rows_turn args.n args.list.now args.marks eb args.s at.t c.row_bytes-bytes.result
          at.copy c.write_bytes.new.out row.result.now hn hs (search rules) at.invariant.0
          c.row_bytes-bytes.ensures row.ensures c.write_bytes.ensures (at.invariant.1 hn hs eb)),
    )

pub returns : goal.returns
returns c hn hs eb =
    let args = c.args in
    rows_end args.n args.list.now args.marks eb args.s _ c.loop-t.copy (omega arith) (c.loop-t.invariant.1 hn hs eb)
