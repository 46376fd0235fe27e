-- The set reader's refusal crosses with its number and 256 zeros.
use mathlib.Core.Path.{sym, ap, ◌∙◌}
use Prim.Native.Nat.{ℕ}
use Rattle.std.specs.Prelude.{Result}
use Rattle.refusals.specs.declared.Refusal.{Refusal}
use Rattle.set_layout.specs.Layout.{no_words}
use Rattle.set_file.specs.Reading.{said, words_beside}
use Rattle.set_file.specs.declared.Taken.{Taken}
use Rattle.crossing.specs.Boundary.{set_of}
use Rattle.word.specs.Reply.{refusal}
use Rattle.crossing.proofs.CSetFromResultTakenRefusal.from.Goals as goal

pub returns-in-Err : goal.returns-in-Err
unfolding no_words
returns-in-Err c =
    ap (λ (k : ℕ). set_of (refusal k) no_words) c.number.ensures
    ∙ sym (ap (λ (r : Result Taken Refusal). set_of (said r) (words_beside r)) c.in-Err.is)
