-- `next_columns` meets its contract: the slice's columns, and then the words for the next.
use mathlib.Core.Path.{ap, ◌∙◌}
use mathlib.Core.List.{[], List, map}
use Prim.Native.Nat.{ℕ, ◌-◌, ◌%◌, min}
use lib.ListN.{length}
use Rattle.rows.specs.Row.{cell}
use Rattle.rows.specs.Marks.{marked_words}
use Rattle.register.specs.Circuit.{circuit}
use Rattle.marked_words.specs.Back.{back}
use Rattle.unclocking.specs.Unclocked.{earlier}
use Rattle.slice_columns.specs.Frame.{marked_earlier}
use Rattle.slice_columns.proofs.next_columns.Goals as goal

pub returns : goal.returns
returns c =
    let args = c.args in
    let row = c.row_of-row.ensures in
    let ws = args.words.now in
    let l = args.columns.now in
    record {
      place = c.list_slice-place.ensures.place ∙ ap (λ (x : List ℕ). length l - length (marked_words ws (cell x) (length ws))) row;
      listed =
          c.list_slice-place.ensures.list
          ∙ ap (λ (x : List ℕ). back (map (earlier (circuit (min args.register.m 64) args.register.taps 0 []) (args.t % 8)) (marked_words ws (cell x) (length ws))) l) row;
      words = c.pass_slice.ensures.looked;
      frame = λ v spread right fits e. (
        c.list_slice-place.ensures.frame v spread fits e ∙ ap (λ (x : List ℕ). marked_earlier (circuit (min args.register.m 64) args.register.taps v spread) args.t (cell x)) row,
        c.pass_slice.ensures.frame (circuit (min args.register.m 64) args.register.taps v spread) spread right e,
      );
    }
