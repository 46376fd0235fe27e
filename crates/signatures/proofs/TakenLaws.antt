-- What a taken set k knows of the file that it is of, where its parts are limited and read by place: k's width counts as at most 64 and its
-- slices as at most 512, its marks are read by their rows, and its entries of ties stand in a list of bytes.
--
--   whole              the set meets none of its numbers
--   own_width          k's width
--   own_slices         .. its slices
--   own_spread         .. its spread words, of which none is bad
--   Marks r n          the rows r are those of the marks of a set of n chains
--   own_marks          .. of its marks
--   unknowns_counted   the marks counted are the unknown cells
--   own_ties           the entries are the set's
--   own_within         .. and lie in its slices and chains
-- Assumes nothing.
use mathlib.Core.Path.{◌≡◌, sym, ap, ap₂, ◌∙◌, subst}
use mathlib.Core.Bool.{false}
use mathlib.Core.List.{List}
use Prim.Native.Nat.{ℕ, ◌*◌, min}
use native.Mathlib.Omega.{arith}
use lib.ListN.{take}
use Rattle.rows.specs.Row.{cell, row_bytes}
use Rattle.rows.specs.Lists.{cells_of}
use Rattle.rows.specs.Marks.{total}
use Rattle.rows.specs.declared.Rows.{Rows}
use Rattle.rows.proofs.MarkLaws.{total_ext}
use Rattle.ties.specs.Ties.{Ties, ties_in}
use Rattle.ties.specs.Symbols.{Within}
use Rattle.chains.specs.Driven.{bad_spread}
use Rattle.register.specs.Circuit.{Circuit, chains}
use Rattle.set_layout.specs.Layout.{width_of, circuit_of, slices_of, mark_at, marks, tie_count_of, tie_bytes, ties_of}
use Rattle.set_layout.proofs.SliceLaws.{mark_rows_row}
use Rattle.set_file.specs.Reading.{taken_circuit, TakenFrom}
use Rattle.set_file.specs.declared.Taken.{Taken}
use Rattle.set_file.proofs.Laws.{Accepted, accepted, accepted_width}
use Rattle.signatures.specs.Sets.{unknowns_of}
use Rattle.signatures.proofs.SetLaws.{set_ties_within, marks_counted}

abbrev pub Marks : Rows → ℕ → Type 0
Marks r n = (r.at ≡ mark_at n 0) × (r.stride ≡ 2 * row_bytes n) × (r.bytes ≡ row_bytes n)

module _ (set : List ℕ) (k : Taken) (taken : TakenFrom set k) where
  pub whole : Accepted set
  whole = accepted set taken.none

  pub own_width : min k.register.m 64 ≡ width_of set
  own_width = omega (arith, taken.width, (accepted_width set whole).1)

  pub own_slices : min k.s 512 ≡ slices_of set
  own_slices = omega (arith, taken.slices, whole.slices)

  pub own_spread : bad_spread (min k.register.m 64) (take k.n k.spread) ≡ false
  own_spread = ap₂ bad_spread own_width taken.spread ∙ whole.spread

  module _ (r : Rows) (e : Marks r k.n) where
    pub own_marks : (t c : ℕ) → cells_of set r t c ≡ marks set t c
    own_marks t c = ap (λ (row : List ℕ). cell row c) (mark_rows_row set k.n r taken.chains e t)

    pub unknowns_counted : (u : ℕ) → u ≡ total k.s (λ t. total 256 (cells_of set r t)) → u ≡ unknowns_of set
    unknowns_counted u eu =
        eu
        ∙ total_ext k.s (λ t. total 256 (cells_of set r t)) (λ t. total 256 (marks set t))
        (λ t h. total_ext 256 (cells_of set r t) (marks set t) (λ c l. own_marks t c))
        ∙ ap (λ (s : ℕ). total s (λ t. total 256 (marks set t))) taken.slices ∙ marks_counted set whole

  module _ (ties : List ℕ) (count : ℕ) (et : ties ≡ tie_bytes set) (ec : count ≡ tie_count_of set) where
    pub own_ties : ties_in ties count ≡ ties_of set
    own_ties = ap₂ ties_in et ec

    pub own_within : Within (min k.s 512) (chains (taken_circuit k)) (ties_in ties count)
    own_within =
        subst (λ (e : Ties). Within (min k.s 512) (chains (taken_circuit k)) e) (sym own_ties)
        (subst (λ (x : Circuit). Within (min k.s 512) (chains x) (ties_of set)) (sym taken.circuit)
        (subst (λ (s : ℕ). Within s (chains (circuit_of set)) (ties_of set)) (sym own_slices) (set_ties_within set whole)))
