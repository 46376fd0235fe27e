-- `main` is safe: what it lends lies within the buffers.
use mathlib.Core.Path.{sym}
use lib.Seq.{length-take-le}
use Rattle.word.proofs.ReplyLaws.{front_part}
use Rattle.plan_printer.proofs.main.Goals as goal

pub slice_bounds-bytes-end : goal.slice_bounds-bytes-end
slice_bounds-bytes-end c = c.in-Ok.ensures

pub slice_bounds-print_set-end : goal.slice_bounds-print_set-end
slice_bounds-print_set-end c = sym (length-take-le _ _ c.in-Ok.ensures)

pub slice_bounds-out-end : goal.slice_bounds-out-end
slice_bounds-out-end c = (front_part _ _ _ _ c.print_set-end.ensures.text c.print_set-end.ensures.count).0

pub slice_bounds-write_all-end : goal.slice_bounds-write_all-end
slice_bounds-write_all-end c = sym (length-take-le _ _ (front_part _ _ _ _ c.print_set-end.ensures.text c.print_set-end.ensures.count).0)
