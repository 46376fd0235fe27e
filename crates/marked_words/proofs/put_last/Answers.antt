-- `put_last` meets its contract, by whether the list has a place.
use mathlib.Core.Path.{refl}
use Rattle.marked_words.proofs.PlaceLaws.{put_full, put_one}
use Rattle.marked_words.proofs.put_last.Goals as goal

pub returns-then-room-eq0 : goal.returns-then-room-eq0
returns-then-room-eq0 c = let full = put_full c.args.columns.now c.args.word c.if-room-eq0.true in record { value = full.0; columns_after = full.1 }

pub returns : goal.returns
returns c = record { value = refl; columns_after = put_one c.args.columns.now c.args.word c.if-room-eq0.false }
