-- The elimination call. Document 01: "The elimination meets 2 and 15 to 18 and answers with the rank and q." Document 02, No. 4:
-- "Show that 16 cannot come up, then take it out; the number isn't given to anything else." Shown in proofs/Theorems (rank_most) and
-- proofs/Sixteen; so it meets 2, 15, 17 and 18.
--
--   Counts               what it answers: the rank and q
--   elimination_tests     the numbers that the call meets, in order, for width m, columns cs and a lent list of k places
--   elimination_reply     its reply
--   said e               the paper's reading of what the function hands back
use Rattle.std.specs.Prelude.{List, [], ◌∷◌, ℕ, ltb, length, Result}
use Rattle.word.specs.Word.{beyond, bad_width}
use Rattle.word.specs.Some.{any_of}
use Rattle.word.specs.Reply.{Test, ◌when◌, Reply, reply}
use Rattle.combinations.specs.Combination.{rank, only_empty}
use Rattle.combinations.specs.Reduced.{reduced_list}
use Rattle.elimination.specs.declared.Eliminated.{Eliminated}
use Rattle.refusals.specs.declared.Refusal.{Refusal}
use Rattle.refusals.specs.Refusals.{replied_by}

pub record Counts : Type 0 where
  pub rank : ℕ
  pub q : ℕ

unfoldable pub elimination_tests : ℕ → List ℕ → ℕ → List Test
elimination_tests m cs k =
    2 when bad_width m
    ∷ 15 when any_of (beyond m) cs
    ∷ 17 when only_empty m cs
    ∷ 18 when ltb k (length (reduced_list m cs))
    ∷ []

unfoldable pub elimination_reply : ℕ → List ℕ → ℕ → Reply Counts
elimination_reply m cs k =
    reply (elimination_tests m cs k) (record { rank = rank cs; q = length (reduced_list m cs) })

abbrev pub said : Result Eliminated Refusal → Reply Counts
said = replied_by (λ (e : Eliminated). record { rank = e.rank; q = e.q })
