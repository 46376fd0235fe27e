-- `tie_side` meets its contract.
use mathlib.Core.Path.{ap, ◌∙◌}
use Prim.Native.Nat.{ℕ, ◌+◌}
use lib.ListN.{get_or}
use Rattle.ties.proofs.tie_side.Goals as goal

pub returns : goal.returns
returns c =
    c.byte_at.ensures
    ∙ ap (λ (at : ℕ). get_or c.args.ties.now (at + 6) 0) c.entry_at.ensures
