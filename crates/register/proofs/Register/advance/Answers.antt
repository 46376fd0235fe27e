-- `Register::advance` meets its contract: one shift within a word, the tap word by the old top bit, and the chains' word.
use Rattle.register.proofs.ClockLaws.{advanced_in_word}
use Rattle.register.proofs.Register.advance.Goals as goal

pub returns : goal.returns
returns c =
    let held = c.holding.ensures in
    let mask = c.low_mask in
    let feedback = c.chosen_word-feedback in
    let top = c.top_place in (
      held.0,
      held.1,
      held.2,
      advanced_in_word _ _ _ _ _ _ _ _ mask.ensures top.ensures feedback.ensures held.3,
    )
