-- The words of a set, and the working list that they come from. Document 02, No. 3: "Words are to come from a working list of 64 places, with
-- the same answer. Refusal 14 in planning now means fewer than 64 places. Past 14, those 64 hold zero when the call ends, accepted or
-- not." Document 02, No. 7: "planning needs one more working place for each named symbol, counted in its 14 and zero at the end also."
--
--   words_for g              document 01: the plan's words, the reduced list for the columns of what is given
--   words_of set             .. of a set
--   working_places set       the places that are worked in: 64, and one for each named symbol
--   working_test set k       14, for a working list of k places
--   working_after ts set l   the working list l at exit, where ts are the numbers that the call meets up to 14
--   kept_tests set p w       the numbers that a taken set meets, in order, for p working places and w word places
--   kept_reply set p w       the reply: q
--   said a                  the paper's reading of what the call hands back
--   named_columns_of set      the columns of its named symbols
--   with_symbols set l       the list l with these behind its first 64 places, where they fit
--   free_words set           the reduced list for the columns of its free cells
use Rattle.std.specs.Prelude.{cond, List, [], ◌∷◌, ◌++◌, ℕ, ◌+◌, ltb, length, take, drop, Result}
use Rattle.word.specs.Reply.{Test, ◌when◌, Reply, reply, lent}
use Rattle.word.specs.Zeros.{zeros}
use Rattle.combinations.specs.Combination.{only_empty}
use Rattle.combinations.specs.Reduced.{reduced_list}
use Rattle.ties.specs.Symbols.{free_marks}
use Rattle.set_layout.specs.Layout.{width_of, circuit_of, slices_of, marks, ties_of}
use Rattle.signatures.specs.Columns.{columns_below}
use Rattle.signatures.specs.Symbols.{named_columns}
use Rattle.signatures.specs.Given.{Given, columns_for}
use Rattle.signatures.specs.Sets.{given, columns_of, named_of}
use Rattle.refusals.specs.declared.Refusal.{Refusal}
use Rattle.refusals.specs.Refusals.{replied_by}

abbrev pub words_for : Given → List ℕ
words_for g = reduced_list g.wiring.width (columns_for g)

unfoldable pub words_of : List ℕ → List ℕ
words_of set = words_for (given set)

abbrev pub working_places : List ℕ → ℕ
working_places set = 64 + named_of set

abbrev pub working_test : List ℕ → ℕ → Test
working_test set k = 14 when ltb k (working_places set)

abbrev pub working_after : List Test → List ℕ → List ℕ → List ℕ
working_after ts set l = lent (reply ts (working_places set)) (zeros (working_places set)) l

unfoldable pub kept_tests : List ℕ → ℕ → ℕ → List Test
kept_tests set p w =
    working_test set p
    ∷ 17 when only_empty (width_of set) (columns_of set)
    ∷ 18 when ltb w (length (words_of set))
    ∷ []

unfoldable pub kept_reply : List ℕ → ℕ → ℕ → Reply ℕ
kept_reply set p w = reply (kept_tests set p w) (length (words_of set))

abbrev pub said : Result ℕ Refusal → Reply ℕ
said = replied_by (λ n. n)

-- ---- the work

unfoldable pub named_columns_of : List ℕ → List ℕ
named_columns_of set = named_columns (circuit_of set) (slices_of set) (ties_of set)

abbrev pub with_symbols : List ℕ → List ℕ → List ℕ
with_symbols set l = cond (ltb (length l) (working_places set)) l (take 64 l ++ (named_columns_of set ++ drop (working_places set) l))

unfoldable pub free_words : List ℕ → List ℕ
free_words set = reduced_list (width_of set) (columns_below (circuit_of set) (slices_of set) (free_marks (marks set) (ties_of set)) (slices_of set))
