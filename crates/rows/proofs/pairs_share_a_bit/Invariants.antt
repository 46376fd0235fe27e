-- `pairs_share_a_bit` meets its contract: the OR of what the pairs passed share, in two words.
use mathlib.Core.Path.{◌≡◌}
use mathlib.Core.Bool.{not}
use lib.Bits.{bit_or}
use lib.Dec.{eqb}
use Rattle.word.specs.Some.{any_below}
use Rattle.rows.proofs.PairLaws.{PairMeets}
use Rattle.rows.proofs.pairs_share_a_bit.Given as goal

abbrev pub invariant-loop-t : goal.invariant-loop-t
invariant-loop-t l = not (eqb (bit_or l.even l.odd) 0) ≡ any_below l.t (PairMeets l.list l.from)
