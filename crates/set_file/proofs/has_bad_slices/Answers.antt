-- `has_bad_slices` meets its contract.
use Rattle.set_file.specs.Reading.{bad_slices}
use Rattle.set_layout.specs.Layout.{head_length}
use Rattle.register.specs.Circuit.{too_many_slices}
use lib.ListN.{length}
use lib.Dec.{ltb}
use Prim.Native.Nat.{ℕ}
use mathlib.Core.Bool.{Bool, ◌||◌}
use mathlib.Core.Path.{ap, ap₂, ◌∙◌}
use Rattle.set_file.proofs.has_bad_slices.Goals as goal

pub returns : goal.returns
unfolding bad_slices
returns c = ap₂ (λ (at : ℕ) (b : Bool). ltb (length c.args.set.now) at || b) (c.rows_at.ensures ∙ ap head_length c.chain_count.ensures)
    (c.is_bad_slices.ensures ∙ ap too_many_slices c.slice_count.ensures)
