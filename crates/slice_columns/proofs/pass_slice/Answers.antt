-- `pass_slice` meets its contract: the slice is the last of eight, or it isn't.
use mathlib.Core.Path.{◌∙◌}
use borrow.Author.Rules.{rules}
use Rattle.slice_columns.proofs.FrameLaws.{passed_eight, passed_between, looked_up_lem, left_alone}
use Rattle.slice_columns.proofs.pass_slice.Goals as goal

pub returns-then-is_eighth : goal.returns-then-is_eighth
returns-then-is_eighth c =
    let entry = c.args in
    record { looked = c.unclock_eight.ensures.looked ∙ looked_up_lem entry.t _ _ (search rules); frame = (λ k spread right e. passed_eight k _ spread _ _ (search rules) e (c.unclock_eight.ensures.eight k right)) }

pub returns-else-is_eighth : goal.returns-else-is_eighth
returns-else-is_eighth c = record { looked = left_alone c.args.t _ _ (search rules); frame = (λ k spread right e. passed_between k _ spread _ (search rules) e) }
