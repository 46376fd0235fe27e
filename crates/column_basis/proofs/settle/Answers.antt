-- `settle` meets its contract, for a dead bit and for another.
use native.Mathlib.Omega.{arith}
use lib.Bits.{xor_lt}
use Rattle.column_basis.proofs.SettledLaws.{settle_skips, settle_turns}
use borrow.Author.Rules.{rules}
use Rattle.column_basis.proofs.settle.Goals as goal

pub overflow_shr-dead : goal.overflow_shr-dead
overflow_shr-dead c = c.requires.1

pub returns-then-dead-d-eq0 : goal.returns-then-dead-d-eq0
returns-then-dead-d-eq0 c = λ l s. settle_skips l _ _ _ _ s c.if-dead-d-eq0.true

pub overflow_shl-bit : goal.overflow_shl-bit
overflow_shl-bit c = c.requires.1

pub offset_bounds-basis-d : goal.offset_bounds-basis-d
offset_bounds-basis-d c = omega (arith, c.requires.1)

pub bounds-basis-d : goal.bounds-basis-d
bounds-basis-d c = omega (arith, c.requires.0, c.requires.1)

pub returns : goal.returns
returns c = λ l s.
    settle_turns l _ _ _ _ s c.requires.1 c.if-dead-d-eq0.false c.ranges.dead.fits _ _ c.xor_marked-others.ensures
    (xor_lt 64 _ _ (c.slice_known-3-1.given c.args.d).fits (search rules)) c.xor_into.ensures
