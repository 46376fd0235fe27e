-- `next_state` meets its contract: one clock of the register that holds the state.
use Rattle.powers.proofs.PowerLaws.{idle_state}
use Rattle.powers.proofs.next_state.Goals as goal

pub returns : goal.returns
returns c =
    let held = c.holding.ensures in idle_state _ _ _ _ _ _ _ held.0 held.1 held.3 c.advance.ensures.3
