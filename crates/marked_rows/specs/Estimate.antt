-- About how many cells are marked, for choosing a way: no answer depends on it.
--
--   every_eighth r       of the rows r the first, the ninth and so on
--   estimate l r s      the marked cells of the first s of the rows r in the list l; from 64 rows on eight times those of every eighth row
--                       (for rows that stand 65,536 bytes or more apart, which no set has, all are counted)
use Rattle.std.specs.Prelude.{◌||◌, cond, List, ℕ, ◌*◌, ◌/◌, leb, ltb}
use Rattle.rows.specs.Lists.{cells_of}
use Rattle.rows.specs.Marks.{total}
use Rattle.rows.specs.declared.Rows.{Rows}

abbrev pub every_eighth : Rows → Rows
every_eighth r = record { at = r.at; stride = 8 * r.stride; bytes = r.bytes }

abbrev pub estimate : List ℕ → Rows → ℕ → ℕ
estimate l r s =
    cond (ltb s 64 || leb 65536 r.stride) (total s (λ t. total 256 (cells_of l r t))) (8 * total (s / 8) (λ t. total 256 (cells_of l (every_eighth r) t)))
