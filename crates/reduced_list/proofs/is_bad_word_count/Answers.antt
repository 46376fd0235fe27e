-- `is_bad_word_count` meets its contract, which is its code.
use mathlib.Core.Path.{refl}
use Rattle.reduced_list.specs.WordCount.{bad_word_count}
use Rattle.reduced_list.proofs.is_bad_word_count.Goals as goal

pub returns : goal.returns
unfolding bad_word_count
returns c = refl
