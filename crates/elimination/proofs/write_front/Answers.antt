-- `write_front` meets its contract: the shorter part is copied.
use Rattle.elimination.proofs.LoopLaws.{front_copied}
use Rattle.elimination.proofs.write_front.Goals as goal

pub returns : goal.returns
returns c = front_copied _ _ _ _ c.min-room.ensures c.copy_from_slice.ensures.after
