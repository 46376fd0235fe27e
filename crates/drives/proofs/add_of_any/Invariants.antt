-- `add_of_any` meets its contract. The loop's invariant: the first `t` drives have their words, and nothing else has changed.
use Rattle.byte_tables.specs.Table.{looked}
use Rattle.drives.specs.Drives.{Added, marks_at}
use Rattle.drives.proofs.add_of_any.Given as goal

abbrev pub invariant-loop-t : goal.invariant-loop-t
invariant-loop-t l = Added l.initial.drives l.drives l.t (λ t. looked l.table (marks_at l.list l.rows l.from t) 8)
