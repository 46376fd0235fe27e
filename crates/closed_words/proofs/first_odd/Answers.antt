-- `first_odd` meets its contract.
use mathlib.Core.Path.{ap, ◌∙◌}
use mathlib.Core.List.{List}
use Prim.Native.Nat.{ℕ, ◌+◌}
use lib.ListN.{drop}
use lib.Seq.{take_all}
use Rattle.parity_table.specs.Table.{even_run}
use Rattle.parity_table.proofs.SkipLaws.{pays_few}
use Rattle.closed_words.proofs.first_odd.Goals as goal

pub returns-then-pays : goal.returns-then-pays
returns-then-pays c =
    let args = c.args in
    c.skip_even.ensures
    ∙ ap (λ (l : List ℕ). args.from + even_run l (drop args.from args.columns.now))
    (take_all 64 args.words.now (pays_few _ _ _ c.pays.ensures c.if-pays.true))
