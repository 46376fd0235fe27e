-- `reduce_free` meets its contract: without entries from the set's own rows of marks, and else from a copy.
use mathlib.Core.Path.{sym, ap, ◌∙◌}
use lib.ListN.{length}
use Rattle.combinations.specs.Step.{units}
use Rattle.signatures.proofs.TakenLaws.{own_width}
use Rattle.kept_words.proofs.FreeLaws.{bare_words, copied_words}
use Rattle.kept_words.proofs.reduce_free.Goals as goal

pub returns-then-is_free : goal.returns-then-is_free
returns-then-is_free c =
    let reduced = c.reduce_cells in
    record {
      left = reduced.ensures.left;
      words = (λ taken room start.
          let words = bare_words _ _ taken _ c.unknown_rows-marks.ensures _ c.tie_count-count.ensures c.if-is_free.true in
          let both = reduced.ensures.words room (start ∙ ap units (sym (own_width _ _ taken))) in
          (both.0 ∙ ap length words, both.1 ∙ words));
    }

pub returns : goal.returns
returns c =
    let reduced = c.reduce_cells-2 in
    record {
      left = reduced.ensures.left;
      words = (λ taken room start.
          let words =
          copied_words _ _ taken _ c.unknown_rows-marks.ensures _ _ _ _ c.packed.ensures c.tie_count-count.ensures c.tie_bytes-ties.ensures
          c.unmark-free.ensures
          in
          let both = reduced.ensures.words room (start ∙ ap units (sym (own_width _ _ taken))) in
          (both.0 ∙ ap length words, both.1 ∙ words));
    }
