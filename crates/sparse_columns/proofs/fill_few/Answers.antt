-- `fill_few` meets its contract: both ways to fill the list do.
use mathlib.Core.Path.{sym, ◌∙◌}
use Rattle.sparse_columns.proofs.fill_few.Goals as goal

pub fill_sparse-requires : goal.fill_sparse-requires
fill_sparse-requires c = sym c.has_bad_word.ensures ∙ c.if-has_bad_word.false
