-- A table of parities: the table by bytes of the words' rows, in which a column's parities are looked up, and runs of columns.
--
--   ParityTable ws table        looked up in the table by its bytes, each column gives its parities with the words ws
--   table_pays n k               for k columns a table of n words, 4 to 64, is taken to cost less time than their parities by themselves
--   run_of f cs                  how many columns stand before the first of cs of which f does not hold
--   even_run ws cs               .. that is odd with one of the words ws
--   table_run table cs           .. for which the XOR of the table's entries is not 0
use Rattle.std.specs.Prelude.{◌≡◌, Bool, not, ◌&&◌, ◌||◌, cond, List, [], ◌∷◌, ℕ, suc, ◌*◌, ◌/◌, ◌^◌, ◌<◌, eqb, leb, ltb}
use Rattle.word.specs.Parities.{parities}
use Rattle.byte_tables.specs.Table.{looked}
use Rattle.combinations.specs.Combination.{x_free}

abbrev pub ParityTable : List ℕ → List ℕ → Type 0
ParityTable ws table = (c : ℕ) → c < 2 ^ 64 → looked table c 8 ≡ parities ws c

unfoldable pub table_pays : ℕ → ℕ → Bool
table_pays n k = not (ltb n 4 || ltb 64 n) && leb 24 (k / 64 * n)

unfoldable pub run_of : (ℕ → Bool) → List ℕ → ℕ
run_of f [] = 0
run_of f (c ∷ cs) = cond (f c) (suc (run_of f cs)) 0

abbrev pub even_run : List ℕ → List ℕ → ℕ
even_run ws cs = run_of (x_free ws) cs

abbrev pub table_run : List ℕ → List ℕ → ℕ
table_run table cs = run_of (λ c. eqb (looked table c 8) 0) cs
