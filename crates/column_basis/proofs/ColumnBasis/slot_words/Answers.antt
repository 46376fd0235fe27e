use mathlib.Core.Path.{◌∙◌}
use Rattle.column_basis.proofs.SettledLaws.{units_long, settle_starts, settle_on, settle_ends}
use borrow.Author.Rules.{rules}
use Rattle.column_basis.proofs.ColumnBasis.slot_words.Goals as goal

pub loop-d-init : goal.loop-d-init
loop-d-init c = (c.args.self.order.long, units_long _ c.unit_words-words.ensures, (λ l h. settle_starts l _ _ _ h c.args.self.order (search rules) c.unit_words-words.ensures))

pub loop-d-preserved : goal.loop-d-preserved
loop-d-preserved c = let at = c.loop-d in
    let done = c.settle in
    (done.auto.basis ∙ at.invariant.0, search rules, (λ l h. settle_on l _ _ _ _ _ _ c.loop-d-test.true (at.invariant.2 l h) (done.ensures l)))

pub returns : goal.returns
returns c = λ l h. settle_ends l _ _ _ _ c.loop-d-test.false (c.loop-d.invariant.2 l h)
