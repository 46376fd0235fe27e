-- Rows that stand in a list of nothing else.
--
--   Alone r n     the rows r of n chains do
--   alone_row     row t of them
--   alone_cells   .. and its cells
-- Assumes nothing.
use mathlib.Core.Path.{◌≡◌, ap, ap₂, ◌∙◌}
use mathlib.Core.List.{List}
use Prim.Native.Nat.{ℕ, ◌+◌, ◌*◌}
use native.Mathlib.Nat.{zero-add}
use lib.ListN.{take, drop}
use Rattle.rows.specs.Row.{cell, row_bytes}
use Rattle.rows.specs.Lists.{row_of, list_row, cells_of}
use Rattle.rows.specs.declared.Rows.{Rows}

abbrev pub Alone : Rows → ℕ → Type 0
Alone r n = (r.at ≡ 0) × (r.stride ≡ row_bytes n) × (r.bytes ≡ row_bytes n)

pub alone_row : (l : List ℕ) (r : Rows) (n t : ℕ) → Alone r n → row_of l r t ≡ list_row n l t
unfolding list_row
alone_row l r n t e =
    let place : r.at + r.stride * t ≡ row_bytes n * t = ap₂ (λ (a b : ℕ). a + b * t) e.0 e.1 ∙ zero-add (row_bytes n * t) in
    ap₂ (λ (b i : ℕ). take b (drop i l)) e.2 place

pub alone_cells : (l : List ℕ) (r : Rows) (n t c : ℕ) → Alone r n → cells_of l r t c ≡ cell (list_row n l t) c
alone_cells l r n t c e = ap (λ (row : List ℕ). cell row c) (alone_row l r n t e)
