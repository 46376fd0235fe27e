use mathlib.Core.Path.{refl, sym, ◌∙◌}
use lib.Bits.{bit_and, xor_lt}
use lib.Count.{count_trailing_zeros}
use Rattle.word.proofs.LowestLaws.{Lowest}
use Rattle.column_basis.proofs.BasisLaws.{walk_step, walk_falls, walk_turn, walk_parities}
use borrow.Author.Rules.{rules}
use Rattle.column_basis.proofs.ColumnBasis.reduced.Goals as goal
use Rattle.column_basis.proofs.ColumnBasis.reduced.Goals.{In-loop-left}

lowest : (c : In-loop-left) → Lowest (bit_and c.loop-left.rest c.args.self.now.dead) (count_trailing_zeros 64 c.loop-left.left)
lowest c = walk_step _ _ _ c.loop-left.invariant.1 c.loop-left-test.true c.loop-left.invariant.0 (search rules)

pub loop-left-smaller : goal.loop-left-smaller
loop-left-smaller c =
    let at = (goal.at.loop-left-smaller c).In-loop-left in
    walk_falls _ _ c.args.self.now.order c.loop-left.rest _ (lowest at) (search rules) (xor_lt 64 _ _ c.loop-left.invariant.0 (search rules))

pub loop-left-preserved : goal.loop-left-preserved
loop-left-preserved c =
    let at = (goal.at.loop-left-preserved c).In-loop-left in
    (xor_lt 64 _ _ c.loop-left.invariant.0 (search rules), refl, (λ l ws s. walk_turn _ _ c.args.self.now.order l ws _ _ _ s (lowest at) (c.loop-left.invariant.2 l ws s)))

pub returns : goal.returns
returns c = λ l ws s.
    let at = c.loop-left in
    walk_parities _ _ _ _ _ _ s at.invariant.0 (sym at.invariant.1 ∙ c.loop-left-test.false) (at.invariant.2 l ws s)
