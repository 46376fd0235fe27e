-- A record's signature. Document 01: "A record is a 0 or 1 for every cell as a tester saw it; its signature uses all of them
-- as recorded." The call meets the set's numbers, then 12 and 13.
--
--   value_cells n set      the value bits of a set of n chains
--   sign_tests set r       the numbers that the call meets, in order
--   sign_reply set r       its reply: the signature
--   said_signed a          the paper's reading of what the call answers
use Rattle.std.specs.Prelude.{not, List, [], ◌∷◌, ◌++◌, ℕ, ◌*◌, eqb, length, take, drop, Result}
use Rattle.word.specs.Reply.{Test, ◌when◌, Reply, reply}
use Rattle.rows.specs.Row.{cell, row_bytes}
use Rattle.rows.specs.Lists.{list_row, spare_in}
use Rattle.set_layout.specs.Layout.{circuit_of, chains_of, slices_of, value_at}
use Rattle.set_file.specs.Reading.{set_tests}
use Rattle.signatures.specs.Signature.{Response, signature}
use Rattle.signatures.specs.Sets.{record_cells}
use Rattle.refusals.specs.declared.Refusal.{Refusal}
use Rattle.refusals.specs.Refusals.{replied_by}

abbrev pub value_cells : ℕ → List ℕ → Response
value_cells n set t = cell (take (row_bytes n) (drop (value_at n t) set))

unfoldable pub sign_tests : List ℕ → List ℕ → List Test
sign_tests set r =
    set_tests set
    ++ 12 when not (eqb (length r) (row_bytes (chains_of set) * slices_of set))
    ∷ 13 when spare_in (chains_of set) (list_row (chains_of set) r) (slices_of set)
    ∷ []

unfoldable pub sign_reply : List ℕ → List ℕ → Reply ℕ
sign_reply set r = reply (sign_tests set r) (signature (circuit_of set) (record_cells (chains_of set) r) (slices_of set))

abbrev pub said_signed : Result ℕ Refusal → Reply ℕ
said_signed = replied_by (λ y. y)
