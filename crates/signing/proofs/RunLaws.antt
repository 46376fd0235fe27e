-- The rows of a set and of a record as those of a response, and the limit on chains. Assumes nothing.
use mathlib.Core.Path.{◌≡◌, sym, ap, ap₂, ◌∙◌}
use mathlib.Core.List.{List}
use Prim.Native.Nat.{ℕ, ◌+◌, ◌*◌, min}
use native.Mathlib.Nat.{zero-add, mul-zero}
use native.Mathlib.Omega.{arith}
use lib.ListN.{length, take, drop}
use Rattle.numbers.proofs.PartLaws.{take_limit}
use Rattle.rows.specs.Row.{cell, row_bytes}
use Rattle.rows.specs.Lists.{cells_of, list_row}
use Rattle.rows.specs.declared.Rows.{Rows}
use Rattle.register.specs.Circuit.{Circuit, circuit}
use Rattle.set_layout.specs.Layout.{rows_at, value_at}
use Rattle.signatures.specs.Signature.{Response, signature}
use Rattle.signatures.specs.Sets.{record_cells}
use Rattle.signatures.proofs.SignatureLaws.{signature_ext}
use Rattle.signing.specs.Signing.{value_cells}

-- the limit on chains, where the words are 256
pub signed_limited : (m t v n chains y s : ℕ) (spread : List ℕ) (x : Response) → y ≡ signature (circuit (min m 64) t v (take chains spread)) x s
    → chains ≡ min n 256 → length spread ≡ 256 → y ≡ signature (circuit (min m 64) t v (take n spread)) x s
signed_limited m t v n chains y s spread x ey ec long =
    ey ∙ ap (λ (ws : List ℕ). signature (circuit (min m 64) t v ws) x s) (take_limit spread n chains (ec ∙ ap (min n) (sym long)))

-- ---- rows of a set, and of a record

module _ (l : List ℕ) (r : Rows) (n : ℕ) where
  pub value_rows_cells : (r.at ≡ value_at n 0) × (r.stride ≡ 2 * row_bytes n) × (r.bytes ≡ row_bytes n) → (k : Circuit) (s : ℕ)
      → signature k (cells_of l r) s ≡ signature k (value_cells n l) s
  value_rows_cells e k s =
      signature_ext k (cells_of l r) (value_cells n l) s
      (λ t c h h'. ap₂ (λ (b i : ℕ). cell (take b (drop i l)) c) e.2 (place t))
    where
      place : (t : ℕ) → r.at + r.stride * t ≡ value_at n t
      place t = ap₂ (λ (x y : ℕ). x + y * t) e.0 e.1 ∙ ap (λ (x : ℕ). x + 2 * row_bytes n * t) first
        where
          first : value_at n 0 ≡ rows_at n
          first = omega (arith, mul-zero (2 * row_bytes n))

  pub record_rows_cells : (r.at ≡ 0) × (r.stride ≡ row_bytes n) × (r.bytes ≡ row_bytes n) → (k : Circuit) (s : ℕ)
      → signature k (cells_of l r) s ≡ signature k (record_cells n l) s
  unfolding list_row
  record_rows_cells e k s =
      signature_ext k (cells_of l r) (record_cells n l) s
      (λ t c h h'. ap₂ (λ (b i : ℕ). cell (take b (drop i l)) c) e.2 (place t))
    where
      place : (t : ℕ) → r.at + r.stride * t ≡ row_bytes n * t
      place t = ap₂ (λ (x y : ℕ). x + y * t) e.0 e.1 ∙ zero-add (row_bytes n * t)
