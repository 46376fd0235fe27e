-- Number 16, taken out. Document 01: "16. The elimination would hold more than m independent columns."; "The elimination meets 2 and 15 to
-- 18". Document 02, No. 4: "Show that 16 cannot come up, then take it out; the number isn't given to anything else." That it cannot come up is
-- proofs/Theorems rank_most; here, that taking it out changes nothing. What is defined here is how the call was: no contract and no other
-- definition names it.
--
--   tests_with_sixteen m cs k   document 01's numbers of the call, in order, for a lent list of k places
--   reply_with_sixteen m cs k   its reply by them
--   sixteen_out               the reply with 16 in the list is the reply without it, for every width, columns and lent list
--   sixteen_out_list          .. and the lent list is left the same
-- Assumes nothing.
use mathlib.Core.Path.{◌≡◌, ap}
use mathlib.Core.List.{List, [], ◌∷◌}
use Prim.Native.Nat.{ℕ}
use lib.Dec.{ltb}
use lib.ListN.{length}
use Rattle.word.specs.Word.{beyond, bad_width}
use Rattle.word.specs.Some.{any_of}
use Rattle.word.specs.Reply.{Test, ◌when◌, Reply, reply, replied, first_of, lent}
use Rattle.word.proofs.TestLaws.{none_and_rest, first_of_out}
use Rattle.combinations.specs.Combination.{rank, only_empty}
use Rattle.combinations.specs.Reduced.{reduced_list}
use Rattle.elimination.specs.Elimination.{Counts, elimination_tests, elimination_reply}
use Rattle.elimination.proofs.Theorems.{sixteen_never}

abbrev pub tests_with_sixteen : ℕ → List ℕ → ℕ → List Test
tests_with_sixteen m cs k =
    2 when bad_width m
    ∷ 15 when any_of (beyond m) cs
    ∷ 16 when ltb m (rank cs)
    ∷ 17 when only_empty m cs
    ∷ 18 when ltb k (length (reduced_list m cs))
    ∷ []

abbrev pub reply_with_sixteen : ℕ → List ℕ → ℕ → Reply Counts
reply_with_sixteen m cs k = reply (tests_with_sixteen m cs k) (record { rank = rank cs; q = length (reduced_list m cs) })

module _ (m : ℕ) (cs : List ℕ) (k : ℕ) where
  same_number : first_of (tests_with_sixteen m cs k) ≡ first_of (elimination_tests m cs k)
  unfolding elimination_tests
  same_number =
      first_of_out (2 when bad_width m ∷ 15 when any_of (beyond m) cs ∷ []) (17 when only_empty m cs ∷ 18 when ltb k (length (reduced_list m cs)) ∷ []) 16 (ltb m (rank cs))
      (λ none. sixteen_never m cs (none_and_rest (any_of (beyond m) cs) 14 0 (none_and_rest (bad_width m) 1 _ none).1).0)

  pub sixteen_out : reply_with_sixteen m cs k ≡ elimination_reply m cs k
  unfolding elimination_reply
  sixteen_out = ap (λ (n : ℕ). replied n (record { rank = rank cs; q = length (reduced_list m cs) })) same_number

pub sixteen_out_list : (m : ℕ) (cs l : List ℕ)
    → lent (reply_with_sixteen m cs (length l)) (reduced_list m cs) l ≡ lent (elimination_reply m cs (length l)) (reduced_list m cs) l
sixteen_out_list m cs l = ap (λ (r : Reply Counts). lent r (reduced_list m cs) l) (sixteen_out m cs (length l))
