use mathlib.Core.Path.{refl, ◌∙◌}
use native.Mathlib.Omega.{arith}
use borrow.Author.Rules.{rules}
use lib.ListN.{length-set}
use Rattle.symbol_flags.proofs.FlagLaws.{made_starts, made_turns}
use Rattle.symbol_flags.proofs.symbol_numbers.Goals as goal

pub loop-i-init : goal.loop-i-init
loop-i-init c = (refl, made_starts _ _ 256 refl)

pub loop-i-preserved : goal.loop-i-preserved
loop-i-preserved c =
    let at = c.loop-i in
    (length-set at.numbers at.i c.tie_symbol.result ∙ at.invariant.0, made_turns _ _ _ _ at.invariant.1 (search rules) c.tie_symbol.ensures)

pub returns : goal.returns
returns c i h = c.loop-i.invariant.1.done i (omega arith)
