-- `eight_back` meets its contract: the bytes, each 8 clocks earlier.
use Rattle.std.proofs.Common.{rules}
use Rattle.unclocking.proofs.UnclockLaws.{bytes_earlier}
use Rattle.unclocking.proofs.eight_back.Goals as goal

pub returns : goal.returns
returns c =
    let bytes = c.from_fn-table.ensures.items in
    bytes_earlier _ c.from_fn-table.result _ (λ x h. let at = (bytes.at x 0 h).2 in search (rules, at)) c.unclock_words.ensures
