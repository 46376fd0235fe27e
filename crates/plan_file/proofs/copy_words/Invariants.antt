-- `copy_words` meets its contract: the places passed are written.
use mathlib.Core.Path.{◌≡◌}
use Prim.Native.Nat.{◌≤◌}
use lib.ListN.{length, take}
use Rattle.word.specs.Reply.{front}
use Rattle.plan_file.specs.Layout.{again_at, file_count, file_words}
use Rattle.plan_file.proofs.copy_words.Given as goal

abbrev pub invariant-loop-i : goal.invariant-loop-i
invariant-loop-i l =
    (l.q ≡ file_count l.plan) × (again_at l.q ≤ length l.plan) × (l.q ≤ length l.initial.words) × (l.words ≡ front (take l.i (file_words l.plan)) l.initial.words)
