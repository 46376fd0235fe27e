-- `fill_wide` meets its contract. The loop's invariant: the columns of the slices from `t` on stand at the list's end, and the words are the
-- spread words after the whole eights of as many clocks.
use Rattle.std.proofs.Common.{◌≤◌, length, min}
use Rattle.rows.specs.Lists.{cells_of}
use Rattle.register.specs.Circuit.{circuit}
use Rattle.eighth_columns.proofs.EighthLaws.{Eighth}
use Rattle.eighth_columns.proofs.fill_wide.Given as goal

abbrev pub invariant-loop-t : goal.invariant-loop-t
invariant-loop-t l = record {
  room : l.place ≤ length l.columns;
  columns : Eighth (circuit (min l.register.m 64) l.register.taps l.register.inversion l.initial.words) l.slices (cells_of l.list l.marks) l.initial.columns l.columns l.place l.t l.words;
}
