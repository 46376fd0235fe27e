-- `fill_sparse` meets its contract. The loop's invariant: the columns of the slices from `end` on stand at the list's end.
use Rattle.std.proofs.Common.{◌≤◌, length, min}
use Rattle.rows.specs.Lists.{cells_of}
use Rattle.register.specs.Circuit.{circuit}
use Rattle.sparse_columns.proofs.SparseLaws.{Sparse}
use Rattle.sparse_columns.proofs.fill_sparse.Given as goal

abbrev pub invariant-loop-end : goal.invariant-loop-end
invariant-loop-end l = record {
  inside : l.end ≤ l.slices;
  room : l.place ≤ length l.columns;
  columns : Sparse (circuit (min l.fn.taken.register.m 64) l.fn.taken.register.taps l.fn.taken.register.inversion l.words) l.slices (cells_of l.list l.marks) l.initial.columns l.columns l.place l.end;
}

abbrev pub decreases-loop-end : goal.decreases-loop-end
decreases-loop-end l = l.end
