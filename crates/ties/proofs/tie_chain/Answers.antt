-- `tie_chain` meets its contract.
use mathlib.Core.Path.{ap, ◌∙◌}
use Prim.Native.Nat.{ℕ, ◌+◌}
use Rattle.numbers.specs.Bytes.{count_at}
use Rattle.ties.proofs.tie_chain.Goals as goal

pub returns : goal.returns
returns c =
    c.read_count.ensures.0
    ∙ ap (λ (at : ℕ). count_at c.args.ties.now (at + 2)) c.entry_at.ensures
