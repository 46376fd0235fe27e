-- `has_wrong_length` meets its contract.
use mathlib.Core.Bool.{not, ◌||◌}
use mathlib.Core.Path.{ap}
use Prim.Native.Nat.{ℕ}
use lib.Dec.{eqb, ltb}
use lib.ListN.{length}
use Rattle.ties.specs.Ties.{most_ties}
use Rattle.set_file.proofs.has_wrong_length.Goals as goal

pub returns : goal.returns
returns c =
    let called = c.args in
    ap (λ (x : ℕ). ltb most_ties called.count || not (eqb (length called.set.now) x)) c.set_length.ensures
