-- `fill_raised` meets its contract: the columns of the raised register, moved down.
use mathlib.Core.Path.{refl, ap, ◌∙◌}
use mathlib.Core.List.{List}
use Prim.Native.Nat.{ℕ, min}
use lib.ListN.{length}
use Rattle.rows.specs.Lists.{cells_of}
use Rattle.marked_words.specs.Back.{back}
use Rattle.sparse_columns.proofs.SparseLaws.{end_changed}
use Rattle.eighth_columns.proofs.RaisedLaws.{lowered_taken}
use Rattle.eighth_columns.proofs.fill_raised.Goals as goal

pub returns : goal.returns
returns c =
    let taken = c.args.taken in
    let wide = c.fill_wide-place in
    let fresh = c.fresh-register.ensures in
    end_changed _ _ c.args.columns.now wide.new.columns _ wide.result (length wide.new.columns) wide.ensures.place wide.ensures.list refl c.lower_words.ensures
    ∙ ap (λ (x : List ℕ). back x c.args.columns.now)
    (lowered_taken taken.register.m taken.register.taps taken.register.inversion taken.n c.width_limit-shift.result _ _ _ taken.spread c.raise_words.new.words (min taken.s 512) (cells_of c.args.list.now c.args.marks) c.width_limit-shift.ensures c.requires.le_m c.requires.taps_bound c.requires.spread_value c.raise_words.ensures fresh.0 fresh.1)
