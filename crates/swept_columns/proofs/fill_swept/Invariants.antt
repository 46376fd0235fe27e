-- `fill_swept` meets its contract. The loop's invariant: the columns of the slices from `t` on stand at the list's end, and the
-- words are the spread words after as many clocks.
use Rattle.std.proofs.Common.{◌≤◌, length, min}
use Rattle.rows.specs.Lists.{cells_of}
use Rattle.register.specs.Circuit.{circuit}
use Rattle.swept_columns.proofs.FillLaws.{Filled}
use Rattle.swept_columns.proofs.fill_swept.Given as goal

abbrev pub invariant-loop-t : goal.invariant-loop-t
invariant-loop-t l = record {
  room : l.place ≤ length l.columns;
  columns : Filled (circuit (min l.register.m 64) l.register.taps l.register.inversion l.initial.words) l.slices (cells_of l.list l.marks) l.initial.columns l.columns l.place l.t l.words;
}
