-- `list_slice` meets its contract: the words of the marked cells are listed, and unclocked for the slices since the last eight.
use mathlib.Core.Path.{refl, ◌∙◌}
use Prim.Native.Nat.{◌-◌, ◌≤◌, min}
use native.Mathlib.Omega.{arith}
use lib.ListN.{length, take, drop}
use borrow.Rule.Slice.PartMut.{same_len_mid}
use Rattle.register.specs.Circuit.{circuit}
use Rattle.unclocking.proofs.UnclockLaws.{earlier_words_same}
use Rattle.sparse_columns.proofs.SparseLaws.{end_changed}
use Rattle.slice_columns.proofs.FrameLaws.{slice_listed}
use Rattle.slice_columns.proofs.list_slice.Goals as goal
use Rattle.slice_columns.proofs.list_slice.Goals.{After-list_row-place}

inside : (c : After-list_row-place) → c.list_row-place.result ≤ length c.list_row-place.new.columns
inside c = omega (arith, c.list_row-place.ensures.value, c.list_row-place.auto.columns)

pub shape_of-columns : goal.shape_of-columns
shape_of-columns c =
    let list = c.list_row-place in
    same_len_mid list.result (length list.new.columns - list.result) list.new.columns c.unclock_words.new.words c.unclock_words.auto.words ∙ list.auto.columns

pub returns : goal.returns
returns c =
    let args = c.args in
    let list = c.list_row-place in
    let unclocked = c.unclock_words in
    record {
      place = list.ensures.value;
      list = end_changed _ _ args.columns.now list.new.columns _ list.result (length list.new.columns) list.ensures.value list.ensures.columns_after refl unclocked.ensures;
      frame = (λ v spread fits e.
          slice_listed (circuit (min args.register.m 64) args.register.taps v spread) args.t args.words.now args.row.now args.columns.now list.new.columns _ list.result fits list.ensures.value list.ensures.columns_after (length list.new.columns) refl e
          (unclocked.ensures ∙ earlier_words_same _ _ v spread _ (take (length list.new.columns - list.result) (drop list.result list.new.columns))));
    }
