-- What the elimination promises of its reply, for a width m, columns cs and a lent list of k places. Crates above cite these, with
-- what combinations/proofs/Theorems.antt says of the rank and the reduced list, and open no definition.
--
--   reply_2, reply_15, reply_17, reply_18   when each number is given
--   reply_done                              the answer: the rank and q
--   later_numbers                           past 15 the numbers are 17 and 18
--   rank_most                               no more than m columns without a bit at or above m are independent of earlier ones
--   independent_most                        .. so of such columns, any that are independent of each other are m at most
--   sixteen_never                           .. so 16, which document 01 gives for more than m independent columns, applies to none
--   reply_not_16                            .. and the call, which has no test for it any more, never gives it (proofs/Sixteen: nor did it)
-- Assumes nothing.
use mathlib.Core.Path.{◌≡◌, refl, ap, ◌∙◌}
use mathlib.Core.Bool.{Bool, true, false}
use mathlib.Core.Logic.{⊎_elim}
use mathlib.Core.List.{List, [], ◌∷◌}
use Prim.Native.Nat.{ℕ, ◌≤◌}
use native.Mathlib.Omega.{arith}
use borrow.Author.Tests.{eqb-true, eq-eqb, le-ltb}
use lib.Dec.{eqb, ltb}
use lib.ListN.{length}
use Rattle.word.specs.Word.{beyond, bad_width}
use Rattle.word.specs.Some.{any_of}
use Rattle.word.specs.Reply.{◌when◌, answer, refusal, reply}
use Rattle.word.proofs.BoolLaws.{or_cases, or_false, or_false_left, or_false_right, or_true_left, or_true_right, true_not_false}
use Rattle.word.proofs.TestLaws.{never}
use Rattle.combinations.specs.Combination.{member, rank, only_empty}
use Rattle.combinations.specs.Reduced.{reduced_list}
use Rattle.combinations.proofs.Theorems.{words_and_rank}
use Rattle.elimination.specs.Elimination.{elimination_tests, elimination_reply}

-- no more than m are independent of earlier ones: each leaves one word fewer, and without a column there are m
pub rank_most : (m : ℕ) (cs : List ℕ) → any_of (beyond m) cs ≡ false → rank cs ≤ m
rank_most m cs b = omega (arith, words_and_rank m cs b)

-- a test that fails for each column of a list fails for one that stands in it
one_not : (f : ℕ → Bool) (cs : List ℕ) (c : ℕ) → any_of f cs ≡ false → member c cs ≡ true → f c ≡ false
unfolding any_of
one_not f [] c b h = absurd (true_not_false false h refl)
one_not f (x ∷ cs) c b h =
    ⊎_elim (λ (e : eqb c x ≡ true). ap f (eqb-true c x e) ∙ or_false_left (f x) (any_of f cs) b)
    (λ (e : member c cs ≡ true). one_not f cs c (or_false_right (f x) (any_of f cs) b) e) (or_cases (eqb c x) (member c cs) h)

none_among : (f : ℕ → Bool) (cs ds : List ℕ) → any_of f cs ≡ false → ((c : ℕ) → member c ds ≡ true → member c cs ≡ true) → any_of f ds ≡ false
unfolding any_of
none_among f cs [] b among = refl
none_among f cs (d ∷ ds) b among =
    or_false (f d) (any_of f ds) (one_not f cs d b (among d (or_true_left (eqb d d) (member d ds) (eq-eqb d d refl))))
    (none_among f cs ds b (λ c h. among c (or_true_right (eqb c d) (member c ds) h)))

-- columns ds taken from cs, in any order, of which each is independent of those before it
pub independent_most : (m : ℕ) (cs ds : List ℕ) → any_of (beyond m) cs ≡ false → ((c : ℕ) → member c ds ≡ true → member c cs ≡ true)
    → rank ds ≡ length ds → length ds ≤ m
independent_most m cs ds b among all = omega (arith, all, rank_most m ds (none_among (beyond m) cs ds b among))

pub sixteen_never : (m : ℕ) (cs : List ℕ) → any_of (beyond m) cs ≡ false → ltb m (rank cs) ≡ false
sixteen_never m cs b = le-ltb m (rank cs) (rank_most m cs b)

module _ (m : ℕ) (cs : List ℕ) (k : ℕ) where
  pub reply_not_16 : elimination_reply m cs k ≡ refusal 16 → ⊥
  unfolding elimination_reply elimination_tests
  reply_not_16 = never 16 (elimination_tests m cs k) _ (λ (z : 16 ≡ 0). omega arith) refl

  pub reply_2 : bad_width m ≡ true → elimination_reply m cs k ≡ refusal 2
  unfolding elimination_reply elimination_tests
  reply_2 a = rw a

  pub reply_15 : bad_width m ≡ false → any_of (beyond m) cs ≡ true → elimination_reply m cs k ≡ refusal 15
  unfolding elimination_reply elimination_tests
  reply_15 a b = rw (a, b)

  pub later_numbers : bad_width m ≡ false → any_of (beyond m) cs ≡ false
      → elimination_reply m cs k
      ≡ reply (17 when only_empty m cs ∷ 18 when ltb k (length (reduced_list m cs)) ∷ [])
      (record { rank = rank cs; q = length (reduced_list m cs) })
  unfolding elimination_reply elimination_tests
  later_numbers a b = rw (a, b)

  module _ (width : bad_width m ≡ false) (columns : any_of (beyond m) cs ≡ false) where
    pub reply_17 : only_empty m cs ≡ true → elimination_reply m cs k ≡ refusal 17
    unfolding elimination_reply elimination_tests
    reply_17 e = rw (width, columns, e)

    pub reply_18 : only_empty m cs ≡ false → ltb k (length (reduced_list m cs)) ≡ true → elimination_reply m cs k ≡ refusal 18
    unfolding elimination_reply elimination_tests
    reply_18 e s = rw (width, columns, e, s)

    pub reply_done : only_empty m cs ≡ false → ltb k (length (reduced_list m cs)) ≡ false
        → elimination_reply m cs k ≡ answer (record { rank = rank cs; q = length (reduced_list m cs) })
    unfolding elimination_reply elimination_tests
    reply_done e s = rw (width, columns, e, s)
