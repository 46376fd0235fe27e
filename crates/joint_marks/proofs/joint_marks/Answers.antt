-- `joint_marks` meets its contract: rows of 32 bytes that are all there are taken as such.
use Rattle.joint_marks.proofs.joint_marks.Goals as goal

pub joint_of_32-requires : goal.joint_of_32-requires
joint_of_32-requires c = c.are_whole_32.ensures c.if-are_whole_32.true
