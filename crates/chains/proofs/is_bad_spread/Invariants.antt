-- `is_bad_spread` meets its contract. The loop's invariant: what `has_zero` and `seen` say of the words passed, and those behind them decide it.
use mathlib.Core.Path.{◌≡◌}
use mathlib.Core.Bool.{◌||◌}
use lib.ListN.{drop}
use Rattle.word.specs.Word.{beyond}
use Rattle.chains.specs.Driven.{bad_spread}
use Rattle.chains.proofs.is_bad_spread.Given as goal

abbrev pub invariant-loop-w : goal.invariant-loop-w
invariant-loop-w l = ((l.has_zero || beyond l.m l.seen) || bad_spread l.m (drop l.w-index l.spread)) ≡ bad_spread l.m l.spread
