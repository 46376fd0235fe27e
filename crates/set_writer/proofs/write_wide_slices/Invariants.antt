-- `write_wide_slices` meets its contract: the slices passed stand behind one another.
use mathlib.Core.Path.{◌≡◌}
use lib.Seq.{sets}
use Rattle.numbers.specs.Joined.{joined}
use Rattle.set_writer.specs.Writing.{slice_bytes}
use Rattle.set_writer.proofs.write_wide_slices.Given as goal

abbrev pub invariant-loop-t : goal.invariant-loop-t
invariant-loop-t l = l.out ≡ sets l.initial.out l.start (joined (slice_bytes l.n l.values l.marks) l.t)
