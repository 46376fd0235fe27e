-- `put_word` meets its contract.
use borrow.Author.Rules.{rules}
use Rattle.symbol_columns.proofs.FillLaws.{put_none, put_past, put_one}
use Rattle.symbol_columns.proofs.put_word.Goals as goal

pub returns-then-flagged-eq0 : goal.returns-then-flagged-eq0
returns-then-flagged-eq0 c = record { value = (put_none _ _ _ _ c.if-flagged-eq0.true).0; places_after = (put_none _ _ _ _ c.if-flagged-eq0.true).1 }

pub returns-then-places-place : goal.returns-then-places-place
returns-then-places-place c = record { value = (put_past _ _ _ _ c.if-flagged-eq0.false c.if-places-place.true).0; places_after = (put_past _ _ _ _ c.if-flagged-eq0.false c.if-places-place.true).1 }

pub returns : goal.returns
returns c = record { value = (put_one _ _ _ _ c.if-flagged-eq0.false (search rules)).0; places_after = (put_one _ _ _ _ c.if-flagged-eq0.false (search rules)).1 }
