-- `reduce_spread` meets its contract: the basis holds the list, after the columns too, and its words are written.
use Rattle.spread_words.proofs.CallLaws.{spread_none, spread_some}
use Rattle.spread_words.proofs.reduce_spread.Goals as goal

pub returns-then-basis : goal.returns-then-basis
returns-then-basis c = λ room.
    spread_none _ _ _ _ c.args.words.now _ _ c.turn_in-basis.ensures.list c.take_columns.ensures c.if-basis.true

pub returns : goal.returns
returns c = λ room.
    spread_some _ _ _ _ _ c.args.words.now _ _ _ _ c.turn_in-basis.ensures.list c.take_columns.ensures
    c.slot_words-made.ensures c.keep_alive.ensures room
