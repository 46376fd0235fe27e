use Rattle.std.proofs.Common.{arith, below_more, get_or-set_other, get_or-set_same, ◌<◌, ◌≢◌, length, ◌∙◌, ap, rules}
use Rattle.register.specs.Circuit.{advanced}
use Rattle.powers.proofs.PowerLaws.{later_none, later_suc}
use Rattle.powers.proofs.powers.Goals as goal

pub loop-entry-init : goal.loop-entry-init
loop-entry-init c = record { powers = search rules; next = later_none _ 1 }

pub loop-entry-preserved : goal.loop-entry-preserved
loop-entry-preserved c =
    let at = c.loop-entry in record {
      powers = below_more _ _
          (λ k h. let other : k ≢ at.entry-index = omega arith in rw get_or-set_other (at.invariant.powers k h))
          (let within : at.entry-index < length at.entry-items = omega arith in rw get_or-set_same at.invariant.next);
      next = c.next_state-power.ensures ∙ ap (advanced _ _) at.invariant.next ∙ later_suc _ at.entry-index 1;
    }
