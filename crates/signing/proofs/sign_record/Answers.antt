-- `sign_record` meets its contract, by the reader's answer and then by the record's length and its spare bits.
use mathlib.Core.Path.{◌∙◌}
use borrow.Author.Rules.{rules}
use Rattle.set_file.proofs.ReadLaws.{refused_set}
use Rattle.signing.proofs.RunLaws.{record_rows_cells}
use Rattle.signing.proofs.CallLaws.{sign_set_refused, sign_wrong_length, sign_spare, sign_answers}
use Rattle.signing.proofs.sign_record.Goals as goal

pub returns-in_err-taken : goal.returns-in_err-taken
returns-in_err-taken c = sign_set_refused _ _ c.from_residual.result _ (search rules) (refused_set _ _ c.in_err-taken.ensures.answer)

pub returns-then-is_misfit : goal.returns-then-is_misfit
returns-then-is_misfit c =
    sign_wrong_length _ _ _ c.in_ok-taken.ensures.taken _ c.rows_length.ensures.0 c.if-is_misfit.true

pub returns-then-has_spare_row : goal.returns-then-has_spare_row
returns-then-has_spare_row c =
    sign_spare _ _ _ c.in_ok-taken.ensures.taken _ c.rows_length.ensures.0 c.if-is_misfit.false _ c.has_spare_row.ensures c.if-has_spare_row.true

pub returns : goal.returns
returns c =
    sign_answers _ _ _ c.in_ok-taken.ensures.taken _ c.rows_length.ensures.0 c.if-is_misfit.false _ c.has_spare_row.ensures _ c.if-has_spare_row.false
    (c.sign_rows.ensures ∙ record_rows_cells _ _ _ c.packed.ensures _ _)
