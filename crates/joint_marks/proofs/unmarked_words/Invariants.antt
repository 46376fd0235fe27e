-- `unmarked_words` meets its contract. The loop's invariant: the cells that no row marks before `j`, wherever rows of this place and stride stand.
use mathlib.Core.Path.{◌≡◌}
use lib.ListN.{length}
use Rattle.rows.specs.declared.Rows.{Rows}
use Rattle.joint_marks.specs.Joint.{UnmarkedWords}
use Rattle.joint_marks.proofs.unmarked_words.Given as goal

abbrev pub invariant-loop-j : goal.invariant-loop-j
invariant-loop-j l = (length l.cells ≡ 4) × ((r : Rows) → r.at ≡ l.first → r.stride ≡ l.stride → r.bytes ≡ 32 → UnmarkedWords l.list r l.j l.cells)
