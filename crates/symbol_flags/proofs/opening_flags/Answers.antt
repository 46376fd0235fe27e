use mathlib.Core.Path.{refl, ◌∙◌}
use native.Mathlib.Omega.{arith}
use borrow.Author.Rules.{rules}
use lib.ListN.{length-set}
use Rattle.symbol_flags.proofs.FlagLaws.{made_starts, made_turns, opening_made, flags_opened}
use Rattle.symbol_flags.proofs.opening_flags.Goals as goal

pub loop-i-init : goal.loop-i-init
loop-i-init c = (refl, made_starts _ _ 256 refl)

pub loop-i-preserved : goal.loop-i-preserved
loop-i-preserved c =
    let at = c.loop-i in (
      length-set at.flags at.i c.from.result ∙ at.invariant.0,
      made_turns _ _ _ _ at.invariant.1 (search rules)
          (opening_made c.symbol_numbers-numbers.result at.i _ _ (search rules) c.has_number-is_named_before.ensures c.from.ensures),
    )

pub returns : goal.returns
returns c = record { flags = (λ few. flags_opened _ _ _ _ _ c.symbol_numbers-numbers.ensures c.loop-i.invariant.1 (omega arith) few); rest = (λ few i past. c.loop-i.invariant.1.rest i (omega arith)) }
