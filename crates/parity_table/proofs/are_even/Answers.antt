-- `are_even` meets its contract: where no word has an odd column, each column is even with all words.
use Prim.Native.Nat.{ℕ, ◌<◌}
use mathlib.Core.Path.{◌≡◌, refl}
use mathlib.Core.Bool.{Bool, true, false}
use mathlib.Core.List.{List}
use lib.ListN.{length, get_or}
use native.Mathlib.Omega.{arith}
use borrow.Author.Rules.{rules}
use borrow.Author.Tests.{tests}
use Rattle.std.specs.Bool.{MatchBool}
use Rattle.std.specs.List.{AllWithin}
use Rattle.std.proofs.lemmas.Iterator.{cases_from_all, YieldsList-from_slice}
use Rattle.word.specs.Word.{parity}
use Rattle.word.proofs.BoolLaws.{true_not_false}
use Rattle.combinations.specs.Combination.{x_free}
use Rattle.parity_table.proofs.SkipLaws.{x_free_all}
use Rattle.parity_table.proofs.are_even.Goals as goal

abbrev AllEven : List ℕ → ℕ → Type 0
AllEven cs w = (j : ℕ) → j < length cs → parity (get_or cs j 0) w ≡ 0

even_each : (ws cs : List ℕ) (r : Bool) (No : Type 0) → MatchBool r (AllWithin (AllEven cs) ws 0 (length ws)) No → r ≡ true
    → (j : ℕ) → j < length cs → x_free ws (get_or cs j 0) ≡ true
even_each ws cs true No h e j l = x_free_all ws (get_or cs j 0) (λ k m. h k 0 (omega arith) m j l)
even_each ws cs false No h e j l = absurd (true_not_false false e refl)

pub returns : goal.returns
returns c =
    even_each _ _ _ _
    (cases_from_all _ _ _ (AllEven c.args.columns.now) (λ w. Unit {0}) c.all.ensures.ran (YieldsList-from_slice c.args.words.now cc) (λ x q k. search (rules, tests)) (λ x q k. search (rules, tests)))
