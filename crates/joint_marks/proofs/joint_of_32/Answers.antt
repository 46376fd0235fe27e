-- `joint_of_32` meets its contract: the bytes of the turned words have their marks.
use mathlib.Core.Path.{◌≡◌, ◌∙◌}
use Prim.Native.Nat.{ℕ, ◌<◌, ◌-◌}
use lib.ListN.{get_or}
use borrow.Author.Rules.{rules}
use Rattle.joint_marks.proofs.JointLaws.{all_flipped, words_over, words_row}
use Rattle.joint_marks.proofs.joint_of_32.Goals as goal

pub returns : goal.returns
returns c =
    let words = c.unmarked_words.result in
    let marked = c.map-marked.result in
    let items = c.map-marked.ensures.items in
    let small : (i : ℕ) → i < 4 → get_or words i 0 < 18446744073709551616 = λ i h. search rules in
    let turned : (i : ℕ) → i < 4 → get_or marked i 0 ≡ 18446744073709551615 - get_or words i 0 = λ i h. let k = items.at i 0 0 h in search rules in
    words_row _ _ _ marked _ items.long (λ i. search rules)
    (words_over _ _ _ words marked c.unmarked_words.ensures (λ i h. turned i h ∙ all_flipped (get_or words i 0) (small i h))) c.write_words.ensures
