-- The words of a taken set's free cells, from the set's own rows of marks or from a copy without those of named cells. Assumes nothing.
use mathlib.Core.Path.{◌≡◌, sym, ap, ap₂, ◌∙◌}
use mathlib.Core.List.{List, []}
use Prim.Native.Nat.{ℕ, ◌≤◌, ◌<◌}
use native.Mathlib.Omega.{arith}
use Rattle.combinations.specs.Reduced.{reduced_list}
use Rattle.rows.specs.Row.{cell, row_bytes}
use Rattle.rows.specs.Lists.{list_row, cells_of}
use Rattle.rows.specs.declared.Rows.{Rows}
use Rattle.ties.specs.Ties.{ties_in}
use Rattle.ties.specs.Symbols.{naming, free_mark, free_marks, unmarked}
use Rattle.ties.proofs.SymbolLaws.{unnamed, unmarked_free}
use Rattle.register.specs.Circuit.{Circuit, chains}
use Rattle.set_layout.specs.Layout.{circuit_of, slices_of, marks, tie_count_of, tie_bytes, ties_of}
use Rattle.free_marks.proofs.AloneLaws.{Alone, alone_cells}
use Rattle.set_file.specs.Reading.{TakenFrom}
use Rattle.set_file.specs.declared.Taken.{Taken}
use Rattle.set_file.proofs.Laws.{accepted_chains}
use Rattle.signatures.specs.Columns.{columns_below}
use Rattle.signatures.proofs.ColumnLaws.{columns_ext}
use Rattle.signatures.proofs.TakenLaws.{whole, own_width, own_slices, Marks, own_marks}
use Rattle.set_words.specs.Working.{taken_words}
use Rattle.kept_words.specs.Working.{free_words}

module _ (set : List ℕ) (k : Taken) (taken : TakenFrom set k) where
  -- rows that mark the set's free cells
  free_words_lem : (l : List ℕ) (r : Rows)
      → ((t c : ℕ) → t < slices_of set → c < chains (circuit_of set) → cells_of l r t c ≡ free_marks (marks set) (ties_of set) t c) → taken_words k l r ≡ free_words set
  unfolding taken_words free_words
  free_words_lem l r same =
      ap₂ reduced_list (own_width set k taken)
      (ap₂ (λ (x : Circuit) (y : ℕ). columns_below x y (cells_of l r) y) taken.circuit (own_slices set k taken)
      ∙ columns_ext (circuit_of set) (slices_of set) (cells_of l r) (free_marks (marks set) (ties_of set)) (slices_of set) same)

  module _ (r : Rows) (e : Marks r k.n) where
    -- without entries every cell is free
    pub bare_words : (count : ℕ) → count ≡ tie_count_of set → count ≡ 0 → taken_words k set r ≡ free_words set
    unfolding free_marks
    bare_words count ec z =
        free_words_lem set r (λ t c lt lc. own_marks set k taken r e t c ∙ sym (ap (free_mark (marks set t c)) (unnamed (ties_of set) (sym ec ∙ z) t c)))

    -- a copy without the marks of named cells
    pub copied_words : (copy ties : List ℕ) (count : ℕ) (r' : Rows) → Alone r' k.n → count ≡ tie_count_of set → ties ≡ tie_bytes set
        → (k.n ≤ 256 → k.s ≤ 512 → r.bytes ≡ row_bytes k.n
        → (t c : ℕ) → t < k.s → cell (list_row k.n copy t) c ≡ unmarked (cells_of set r) (ties_in ties count) [] t c)
        → taken_words k copy r' ≡ free_words set
    unfolding free_marks
    copied_words copy ties count r' e' ec et made =
        free_words_lem copy r'
        (λ t c lt lc.
        alone_cells copy r' k.n t c e'
        ∙ made (omega (arith, taken.chains, (accepted_chains set (whole set k taken)).1)) (omega (arith, taken.slices, (whole set k taken).slices)) e.2 t c (omega (arith, taken.slices))
        ∙ ap₂ (λ (l : List ℕ) (i : ℕ). unmarked (cells_of set r) (ties_in l i) [] t c) et ec
        ∙ unmarked_free (cells_of set r) (ties_of set) t c
        ∙ ap (λ (d : ℕ). free_mark d (naming (ties_of set) t c)) (own_marks set k taken r e t c))
