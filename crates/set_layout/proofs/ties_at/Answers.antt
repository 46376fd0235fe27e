-- `ties_at` meets its contract: the place stays within the word.
use Rattle.set_layout.proofs.LayoutLaws.{slices_end_small}
use native.Mathlib.Omega.{arith}
use Rattle.set_layout.proofs.ties_at.Goals as goal

pub overflow_add-result : goal.overflow_add-result
overflow_add-result c =
    record { fits = omega (arith, c.tie_count_at.ensures, slices_end_small c.args.n c.args.s (omega arith) (omega arith)) }
