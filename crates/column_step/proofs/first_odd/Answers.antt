-- `first_odd` meets its contract.
use mathlib.Core.Path.{◌≡◌, ◌∙◌}
use borrow.Author.Rules.{rules}
use borrow.Author.Tests.{tests}
use Rattle.word.specs.Word.{parity}
use Rattle.std.proofs.lemmas.Iterator.{IsFirst-from_position, YieldsList-from_slice}
use Rattle.column_step.proofs.PivotLaws.{first_odd_at}
use Rattle.column_step.proofs.first_odd.Goals as goal

pub returns : goal.returns
returns c =
    c.unwrap_or.ensures
    ∙ first_odd_at c.args.column c.args.words.now c.position.result
    (IsFirst-from_position _ _ _ (λ w. parity w c.args.column ≡ 0 → ⊥) (λ w. parity w c.args.column ≡ 0) c.position.ensures.ran (YieldsList-from_slice c.args.words.now cc)
    (λ x q k. search (rules, tests)) (λ x q k. search (rules, tests)))
