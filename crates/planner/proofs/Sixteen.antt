-- Number 16, taken out of planning and of the call that gives the words (document 02, No. 4; elimination/proofs/Sixteen). Document 01 has
-- it between 14 and 17. What is defined here is how the calls were: no contract and no other definition names it.
--
--   plan_tests_with_sixteen set k l    document 01's numbers of both calls, in order, for k working places and l word places
--   words_reply_with_sixteen set k l   by them the reply of the call that gives the words
--   plan_reply_with_sixteen set k l    .. and planning's
--   words_sixteen_out               the reply with 16 in the list is the reply without it, for every set and all lent lists
--   plan_sixteen_out                .. and so is planning's
--   words_sixteen_out_list          .. and the word list is left the same by the one
--   plan_sixteen_out_list           .. and by the other; the working list hangs on the numbers up to 14 alone (working_left)
-- Assumes nothing.
use mathlib.Core.Path.{◌≡◌, ap}
use mathlib.Core.List.{List, [], ◌∷◌, ◌++◌}
use Prim.Native.Nat.{ℕ}
use lib.Dec.{ltb}
use lib.ListN.{length}
use Rattle.word.specs.Reply.{Test, ◌when◌, Reply, reply, replied, first_of, lent}
use Rattle.word.proofs.TestLaws.{first_of_out}
use Rattle.combinations.specs.Combination.{rank, only_empty}
use Rattle.elimination.proofs.Theorems.{sixteen_never}
use Rattle.set_layout.specs.Layout.{width_of}
use Rattle.set_file.proofs.Laws.{accepted}
use Rattle.signatures.specs.Sets.{columns_of}
use Rattle.signatures.proofs.SetLaws.{columns_of_within}
use Rattle.kept_words.specs.Working.{words_of}
use Rattle.planner.specs.Planning.{earlier_tests, plan_tests, WordParts, word_parts_of, words_reply, PlanParts, parts_of, plan_reply}
use Rattle.planner.proofs.NumberLaws.{later, earlier_set}

abbrev pub plan_tests_with_sixteen : List ℕ → ℕ → ℕ → List Test
plan_tests_with_sixteen set k l =
    earlier_tests set k
    ++ 16 when ltb (width_of set) (rank (columns_of set))
    ∷ 17 when only_empty (width_of set) (columns_of set)
    ∷ 18 when ltb l (length (words_of set))
    ∷ []

abbrev pub words_reply_with_sixteen : List ℕ → ℕ → ℕ → Reply WordParts
words_reply_with_sixteen set k l = reply (plan_tests_with_sixteen set k l) (word_parts_of set)

abbrev pub plan_reply_with_sixteen : List ℕ → ℕ → ℕ → Reply PlanParts
plan_reply_with_sixteen set k l = reply (plan_tests_with_sixteen set k l) (parts_of set)

module _ (set : List ℕ) (k l : ℕ) where
  same_number : first_of (plan_tests_with_sixteen set k l) ≡ first_of (plan_tests set k l)
  unfolding plan_tests
  same_number =
      first_of_out (earlier_tests set k) (later set l) 16 (ltb (width_of set) (rank (columns_of set)))
      (λ none. sixteen_never (width_of set) (columns_of set) (columns_of_within set (accepted set (earlier_set set k none))))

  pub words_sixteen_out : words_reply_with_sixteen set k l ≡ words_reply set k l
  unfolding words_reply
  words_sixteen_out = ap (λ (n : ℕ). replied n (word_parts_of set)) same_number

  pub plan_sixteen_out : plan_reply_with_sixteen set k l ≡ plan_reply set k l
  unfolding plan_reply
  plan_sixteen_out = ap (λ (n : ℕ). replied n (parts_of set)) same_number

module _ (set : List ℕ) (k : ℕ) (ws : List ℕ) where
  pub words_sixteen_out_list : lent (words_reply_with_sixteen set k (length ws)) (words_of set) ws ≡ lent (words_reply set k (length ws)) (words_of set) ws
  words_sixteen_out_list = ap (λ (r : Reply WordParts). lent r (words_of set) ws) (words_sixteen_out set k (length ws))

  pub plan_sixteen_out_list : lent (plan_reply_with_sixteen set k (length ws)) (words_of set) ws ≡ lent (plan_reply set k (length ws)) (words_of set) ws
  plan_sixteen_out_list = ap (λ (r : Reply PlanParts). lent r (words_of set) ws) (plan_sixteen_out set k (length ws))
