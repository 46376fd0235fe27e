-- `lacks_room` meets its contract.
use lib.Dec.{ltb}
use mathlib.Core.Path.{ap}
use Rattle.set_content.proofs.lacks_room.Goals as goal

pub returns : goal.returns
returns c = ap (ltb c.args.room) c.set_length.ensures
