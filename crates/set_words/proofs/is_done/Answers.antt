-- `is_done` meets its contract.
use mathlib.Core.Path.{refl}
use mathlib.Core.Bool.{false}
use Rattle.word.proofs.BoolLaws.{true_not_false}
use Rattle.set_words.proofs.is_done.Goals as goal

pub returns-then-unwrap_or-at : goal.returns-then-unwrap_or-at
returns-then-unwrap_or-at c = λ e. absurd (true_not_false false e refl)
