-- Ties: unknown cells that are fed by one source. Document 02, No. 7: "After its slices a set carries a count of 0 to 256, then entries:
-- slice, chain and symbol number (2 bytes each) and a byte, 0 for as is, 1 for opposite. Cells with one symbol number take one value, or
-- its opposite"; "Errors: 29 for a cell absent or not unknown; 30 for entries not strictly ascending by slice and chain; 31 for a last byte
-- above 1".
--
--   Ties                how many entries there are, and of each the slice and the chain of its cell, its symbol number, and its side: 0 where
--                       the cell takes the symbol's value as is, 1 where it takes the opposite
--   no_ties              no entry
--   entry_bytes          the bytes of an entry
--   most_ties            the most entries that a set has
--   ties_in l k          the first k entries of a list of bytes
--   wrong_cell s n u e i entry i of e names a cell that isn't there, with s slices and n chains, or isn't unknown, where u marks those that are
--   wrong_cells s n u e  document 02, 29: some entry does
--   precedes e i        entry i comes before the next one, by slice and then by chain
--   wrong_order e        document 02, 30: some entry doesn't
--   wrong_sides e        document 02, 31: a last byte is above 1
--   tie_tests s n u e    the numbers 29 to 31, in order
use Rattle.std.specs.Prelude.{Bool, not, ◌&&◌, ◌||◌, List, [], ◌∷◌, ℕ, suc, ◌+◌, ◌-◌, ◌*◌, eqb, ltb, get_or}
use Rattle.word.specs.Reply.{Test, ◌when◌}
use Rattle.word.specs.Some.{any_below}
use Rattle.numbers.specs.Bytes.{count_at}
use Rattle.rows.specs.Row.{Cells}

pub record Ties : Type 0 where
  pub count : ℕ
  pub slice : ℕ → ℕ
  pub chain : ℕ → ℕ
  pub symbol : ℕ → ℕ
  pub side : ℕ → ℕ

abbrev pub no_ties : Ties
no_ties = record { count = 0; slice = λ i. 0; chain = λ i. 0; symbol = λ i. 0; side = λ i. 0 }

abbrev pub entry_bytes : ℕ
entry_bytes = 7

abbrev pub most_ties : ℕ
most_ties = 256

abbrev pub ties_in : List ℕ → ℕ → Ties
ties_in l k = record {
  count = k;
  slice = λ i. count_at l (entry_bytes * i);
  chain = λ i. count_at l (entry_bytes * i + 2);
  symbol = λ i. count_at l (entry_bytes * i + 4);
  side = λ i. get_or l (entry_bytes * i + 6) 0;
}

unfoldable pub wrong_cell : ℕ → ℕ → (ℕ → Cells) → Ties → ℕ → Bool
wrong_cell s n u e i = not (ltb (e.slice i) s && (ltb (e.chain i) n && eqb (u (e.slice i) (e.chain i)) 1))

unfoldable pub wrong_cells : ℕ → ℕ → (ℕ → Cells) → Ties → Bool
wrong_cells s n u e = any_below e.count (wrong_cell s n u e)

unfoldable pub precedes : Ties → ℕ → Bool
precedes e i =
    ltb (e.slice i) (e.slice (suc i)) || (eqb (e.slice i) (e.slice (suc i)) && ltb (e.chain i) (e.chain (suc i)))

unfoldable pub wrong_order : Ties → Bool
wrong_order e = any_below (e.count - 1) (λ i. not (precedes e i))

unfoldable pub wrong_sides : Ties → Bool
wrong_sides e = any_below e.count (λ i. ltb 1 (e.side i))

abbrev pub tie_tests : ℕ → ℕ → (ℕ → Cells) → Ties → List Test
tie_tests s n u e = 29 when wrong_cells s n u e ∷ 30 when wrong_order e ∷ 31 when wrong_sides e ∷ []
