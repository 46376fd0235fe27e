-- `begin` meets its contract: no column is taken, or the first are on the words in their slots.
use Rattle.spread_words.proofs.CallLaws.{first_none, first_some}
use Rattle.spread_words.proofs.begin.Goals as goal

pub returns-then-count-eq0 : goal.returns-then-count-eq0
returns-then-count-eq0 c = first_none _ _

pub returns-in_default : goal.returns-in_default
returns-in_default c = first_none _ _

pub returns-then-not-has_own_bits : goal.returns-then-not-has_own_bits
returns-then-not-has_own_bits c = first_none _ _

pub returns : goal.returns
returns c =
    first_some _ _ _ _ _ _ _ c.taken_count-count.ensures c.in-Some.ensures c.reduce_spread-left.ensures
