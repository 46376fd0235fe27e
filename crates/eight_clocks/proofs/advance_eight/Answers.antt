-- `advance_eight` meets its contract.
use mathlib.Core.Path.{◌∙◌}
use native.Mathlib.Omega.{arith}
use Rattle.eight_clocks.proofs.EightLaws.{looked_words}
use borrow.Author.Rules.{rules}
use Rattle.eight_clocks.proofs.advance_eight.Goals as goal

pub returns : goal.returns
returns c =
    let args = c.args in
    let looked = c.look_eight.ensures (search rules) in
    record { looked = looked; eight = (λ k e wide right. looked ∙ looked_words args.m 8 args.table.now args.words.now (omega arith) k e wide right) }
