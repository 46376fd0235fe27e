-- Listing the columns. Document 01: "Listing the columns answers with the number of unknown cells"; 14: "The lent column list is
-- shorter than the number of unknown cells." Document 02, No. 7: "Counts of unknowns in 14, and in the answer of the call that lists
-- columns, become counts of symbols". The call meets the set's numbers, then 14, and fills the front of the lent list.
--
--   list_tests set room   the numbers that the call meets, in order, for a lent list of `room` places
--   list_reply set room   its reply: the number of symbols, free and named
--   columns_after set cs  the lent column list at exit
--   said_listed a         the paper's reading of what the call answers
use Rattle.std.specs.Prelude.{List, [], ◌∷◌, ◌++◌, ℕ, ltb, length, Result}
use Rattle.word.specs.Reply.{Test, ◌when◌, Reply, reply, lent}
use Rattle.set_file.specs.Reading.{set_tests}
use Rattle.signatures.specs.Sets.{symbols_of, columns_of}
use Rattle.refusals.specs.declared.Refusal.{Refusal}
use Rattle.refusals.specs.Refusals.{replied_by}

unfoldable pub list_tests : List ℕ → ℕ → List Test
list_tests set room = set_tests set ++ 14 when ltb room (symbols_of set) ∷ []

unfoldable pub list_reply : List ℕ → ℕ → Reply ℕ
list_reply set room = reply (list_tests set room) (symbols_of set)

abbrev pub columns_after : List ℕ → List ℕ → List ℕ
columns_after set cs = lent (list_reply set (length cs)) (columns_of set) cs

abbrev pub said_listed : Result ℕ Refusal → Reply ℕ
said_listed = replied_by (λ n. n)
