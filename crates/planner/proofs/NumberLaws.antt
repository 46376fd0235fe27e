-- The numbers of planning, which the call that gives the words meets too: the set's and 14, then 17 and 18; and what is
-- known of a set to which none of them applies: it has words, at most m of them, and they are reduced. Assumes nothing.
use mathlib.Core.Path.{◌≡◌, refl, sym, ◌∙◌}
use mathlib.Core.Bool.{true, false}
use mathlib.Core.List.{List, [], ◌∷◌}
use Prim.Native.Nat.{ℕ, ◌≤◌}
use native.Mathlib.Omega.{arith}
use borrow.Author.Tests.{eqb-false}
use lib.Dec.{ltb}
use lib.ListN.{length}
use Rattle.word.specs.Reply.{Test, ◌when◌, first_of}
use Rattle.word.proofs.TestLaws.{numbered, none_and_rest, first_of_later, first_of_sooner, first_of_none, first_sooner}
use Rattle.combinations.specs.Combination.{only_empty}
use Rattle.combinations.specs.Reduced.{is_reduced}
use Rattle.combinations.proofs.Theorems.{words_and_rank, reduced_list_reduced, only_empty_list}
use Rattle.set_layout.specs.Layout.{width_of}
use Rattle.set_file.specs.Reading.{set_tests}
use Rattle.set_file.proofs.Laws.{Accepted, accepted, accepted_width, set_numbered}
use Rattle.signatures.specs.Sets.{columns_of}
use Rattle.signatures.proofs.SetLaws.{columns_of_within}
use Rattle.kept_words.specs.Working.{words_of, working_test}
use Rattle.planner.specs.Planning.{earlier_tests, plan_tests}

-- ---- in order

-- the numbers past 14, for l word places
abbrev pub later : List ℕ → ℕ → List Test
later set l = 17 when only_empty (width_of set) (columns_of set) ∷ 18 when ltb l (length (words_of set)) ∷ []

pub earlier_numbered : (set : List ℕ) (k : ℕ) → numbered (earlier_tests set k) ≡ true
unfolding earlier_tests set_tests
earlier_numbered set k = refl

-- the set's numbers come first
pub earlier_set : (set : List ℕ) (k : ℕ) → first_of (earlier_tests set k) ≡ 0 → first_of (set_tests set) ≡ 0
unfolding earlier_tests
earlier_set set k h = first_of_none (set_tests set) _ h

pub set_first : (set : List ℕ) (k n : ℕ) → n ≡ first_of (set_tests set) → (n ≡ 0 → ⊥) → n ≡ first_of (earlier_tests set k)
unfolding earlier_tests
set_first set k n e h = first_sooner (set_tests set) _ n e h

-- .. and past them only 14 is left
pub earlier_past_set : (set : List ℕ) (k : ℕ) → first_of (set_tests set) ≡ 0 → first_of (earlier_tests set k) ≡ first_of (working_test set k ∷ [])
unfolding earlier_tests
earlier_past_set set k h = first_of_later (set_tests set) _ (set_numbered set) h

module _ (set : List ℕ) (k l : ℕ) where
  pub plan_sooner : (first_of (earlier_tests set k) ≡ 0 → ⊥) → first_of (plan_tests set k l) ≡ first_of (earlier_tests set k)
  unfolding plan_tests
  plan_sooner h = first_of_sooner (earlier_tests set k) _ h

  pub plan_later : first_of (earlier_tests set k) ≡ 0 → first_of (plan_tests set k l) ≡ first_of (later set l)
  unfolding plan_tests
  plan_later h = first_of_later (earlier_tests set k) _ (earlier_numbered set k) h

-- ---- how many words there are

-- a set has no more words than its register has bits
words_most : (set : List ℕ) → Accepted set → length (words_of set) ≤ width_of set
unfolding words_of columns_of
words_most set a = omega (arith, words_and_rank (width_of set) (columns_of set) (columns_of_within set a))

pub words_few : (set : List ℕ) → Accepted set → length (words_of set) ≤ 64
words_few set a = omega (arith, words_most set a, (accepted_width set a).1)

-- ---- none applies

module _ (set : List ℕ) (k l : ℕ) (none : first_of (plan_tests set k l) ≡ 0) where
  earlier_none : first_of (earlier_tests set k) ≡ 0
  unfolding plan_tests
  earlier_none = first_of_none (earlier_tests set k) _ none

  pub planned_none : first_of (set_tests set) ≡ 0
  planned_none = earlier_set set k earlier_none

  pub planned_accepted : Accepted set
  planned_accepted = accepted set planned_none

  some_words : only_empty (width_of set) (columns_of set) ≡ false
  some_words = (none_and_rest (only_empty (width_of set) (columns_of set)) 16 _ (sym (plan_later set k l earlier_none) ∙ none)).0

  pub words_count : (1 ≤ length (words_of set)) × (length (words_of set) ≤ width_of set)
  unfolding words_of columns_of
  words_count =
      let positive : length (words_of set) ≡ 0 → ⊥ = eqb-false (length (words_of set)) 0 (sym (only_empty_list (width_of set) (columns_of set)) ∙ some_words) in
      (omega arith, words_most set planned_accepted)

  pub words_reduced : is_reduced (width_of set) (words_of set) ≡ true
  unfolding words_of columns_of
  words_reduced = reduced_list_reduced (width_of set) (columns_of set) (accepted_width set planned_accepted).1
