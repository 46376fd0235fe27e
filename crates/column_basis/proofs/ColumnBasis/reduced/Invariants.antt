-- `reduced` meets its contract: what is left of the column has its parities, and its lowest dead bit rises.
use mathlib.Core.Path.{◌≡◌}
use mathlib.Core.List.{List}
use Prim.Native.Nat.{ℕ, ◌-◌, ◌^◌, ◌<◌}
use lib.Bits.{bit_and}
use lib.Count.{count_trailing_zeros}
use Rattle.word.specs.Parities.{parities}
use Rattle.column_basis.specs.Basis.{Slots}
use Rattle.column_basis.proofs.ColumnBasis.reduced.Given as goal

abbrev pub invariant-loop-left : goal.invariant-loop-left
invariant-loop-left live = (live.rest < 2 ^ 64) × (live.left ≡ bit_and live.rest live.self.dead) × ((l ws : List ℕ) → Slots l ws live.self.words live.self.dead → parities ws live.rest ≡ parities ws live.column)

abbrev pub decreases-loop-left : goal.decreases-loop-left
decreases-loop-left l = 64 - count_trailing_zeros 64 l.left
