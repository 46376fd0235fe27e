-- The slices of a response run through the register: the start, the turn and the end of the loops. Assumes nothing.
use mathlib.Core.Path.{◌≡◌, refl, sym, ap, ap₂, ◌∙◌}
use mathlib.Core.List.{List}
use Prim.Native.Nat.{ℕ, ◌+◌, ◌*◌, ◌≤◌, ◌<◌, min}
use native.Mathlib.Numerals.{add-one}
use lib.Bits.{bit_xor}
use lib.ListN.{length, get_or}
use lib.Seq.{take_all}
use Rattle.numbers.proofs.FileLaws.{part_small}
use Rattle.rows.specs.Row.{cell}
use Rattle.rows.specs.Lists.{row_of, cells_of}
use Rattle.rows.specs.declared.Rows.{Rows}
use Rattle.chains.specs.Driven.{driven}
use Rattle.chains.specs.Table.{HalfBytes, looked_up}
use Rattle.chains.proofs.TableLaws.{table_drives}
use Rattle.register.specs.Circuit.{Circuit, circuit, advanced, clocked}
use Rattle.register.proofs.ClockLaws.{clocked_driven}
use Rattle.signatures.specs.Signature.{Response, runs, signature}
use Rattle.signatures.proofs.SignatureLaws.{runs_none, runs_suc}

-- what a register's circuit gives is given by that of a register with the same width, tap word and inversion word
pub same_circuit : (f : Circuit → ℕ) (m t v m' t' v' : ℕ) (ws : List ℕ) → (m' ≡ m) × (t' ≡ t) × (v' ≡ v)
    → f (circuit (min m' 64) t' v' ws) ≡ f (circuit (min m 64) t v ws)
same_circuit f m t v m' t' v' ws e =
    ap₂ (λ (x y : ℕ). f (circuit (min x 64) y v' ws)) e.0 e.1 ∙ ap (λ (x : ℕ). f (circuit (min m 64) t x ws)) e.2

module _ (m t v : ℕ) (ws : List ℕ) (x : Response) where
  -- what the loops know: the register is as given, and holds the state after the first c slices
  pub Running : ℕ → ℕ → ℕ → ℕ → ℕ → Type 0
  Running m' t' v' state c = (m' ≡ m) × (t' ≡ t) × (v' ≡ v) × (state ≡ runs (circuit (min m 64) t v ws) x c)

  pub running_starts : (state : ℕ) → state ≡ 0 → Running m t v state 0
  unfolding Running
  running_starts state e = (refl, refl, refl, e ∙ sym (runs_none (circuit (min m 64) t v ws) x))

  pub running_turns : (m' t' v' state m'' t'' v'' next c drive : ℕ) → Running m' t' v' state c
      → (m'' ≡ m') × (t'' ≡ t') × (v'' ≡ v') × (next ≡ bit_xor (bit_xor (advanced (min m' 64) t' state) drive) v') → drive ≡ driven ws (x c) (length ws)
      → Running m'' t'' v'' next (c + 1)
  unfolding Running
  running_turns m' t' v' state m'' t'' v'' next c drive k e ed = (
    e.0 ∙ k.0,
    e.1 ∙ k.1,
    e.2 ∙ k.2,
    clocked_driven (min m' 64) t' v' state drive next ws (x c) ed e.3
        ∙ same_circuit (λ (y : Circuit). clocked y (x c) state) m t v m' t' v' ws (k.0, k.1, k.2)
        ∙ ap (clocked (circuit (min m 64) t v ws) (x c)) k.3
        ∙ sym (runs_suc (circuit (min m 64) t v ws) x c) ∙ ap (runs (circuit (min m 64) t v ws) x) (sym (add-one c)),
  )

  pub running_ends : (m' t' v' state c s : ℕ) → Running m' t' v' state c → c ≡ s → state ≡ signature (circuit (min m 64) t v ws) x s
  unfolding Running
  running_ends m' t' v' state c s k e = k.3 ∙ ap (runs (circuit (min m 64) t v ws) x) e

-- what a row drives, by the part of the list that it is
pub row_driven : (ws l row : List ℕ) (r : Rows) (t drive : ℕ) → row ≡ row_of l r t → drive ≡ driven ws (cell row) (length ws)
    → drive ≡ driven ws (cells_of l r t) (length ws)
row_driven ws l row r t drive er ed = ed ∙ ap (λ (y : List ℕ). driven ws (cell y) (length ws)) er

-- .. by the table of half bytes
pub row_looked : (ws table l row : List ℕ) (r : Rows) (t drive : ℕ) → length ws ≤ 256 → HalfBytes ws table → ((i : ℕ) → get_or l i 0 < 256)
    → row ≡ row_of l r t → drive ≡ looked_up table row (min (length row) 32) → drive ≡ driven ws (cells_of l r t) (length ws)
row_looked ws table l row r t drive few right bytes er ed =
    ed ∙ ap (λ (y : List ℕ). looked_up table y (min (length y) 32)) er
    ∙ table_drives ws table (row_of l r t) right (part_small l bytes (r.at + r.stride * t) r.bytes)
    ∙ ap (λ (vs : List ℕ). driven vs (cells_of l r t) (length vs)) (take_all 256 ws few)

-- signed with the fresh register is signed with that which was given
pub signed_fresh : (m t v m' t' v' y s : ℕ) (ws : List ℕ) (x : Response) → y ≡ signature (circuit (min m' 64) t' v' ws) x s → (m' ≡ m) × (t' ≡ t) × (v' ≡ v)
    → y ≡ signature (circuit (min m 64) t v ws) x s
signed_fresh m t v m' t' v' y s ws x ey er = ey ∙ same_circuit (λ (k : Circuit). signature k x s) m t v m' t' v' ws er
