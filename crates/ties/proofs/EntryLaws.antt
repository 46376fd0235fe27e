-- One entry's tests, from what its readers ensure, and the tests of all entries.
--
--   wrong_cell_of      the cell's mark as it is read
--   precedes_of        the next entry's slice and chain as they are read
--   any_entry          a test of the entries below n, one after the other
--   tie_tests_none     no number applies where there is no entry
--   wrong_cells_marks  29 asks only for the marks of slices that there are
--   tie_tests_marks    .. and so do the three
-- Assumes nothing.
use mathlib.Core.Path.{◌≡◌, refl, sym, ap, ap₂, ◌∙◌}
use mathlib.Core.Bool.{Bool, true, false, cond, not, ◌&&◌, ◌||◌}
use mathlib.Core.List.{List, [], ◌∷◌, ◌++◌}
use Prim.Native.Nat.{ℕ, zero, suc, ◌+◌, ◌*◌, ◌<◌}
use native.Mathlib.Numerals.{add-one}
use native.Mathlib.Omega.{arith}
use borrow.Author.Tests.{ltb-true}
use lib.Dec.{eqb, ltb}
use Rattle.std.specs.List.{list_any, range_with_len}
use Rattle.std.proofs.lemmas.List.{map-id}
use Rattle.std.proofs.lemmas.List.Folds.{list_any-append}
use Rattle.std.proofs.lemmas.List.FromFn.{map-range_with_len_more}
use Rattle.word.specs.Reply.{first_of}
use Rattle.word.specs.Some.{any_below}
use Rattle.word.proofs.SomeLaws.{any_below_ext}
use Rattle.numbers.specs.Bytes.{count_at}
use Rattle.rows.specs.Row.{Cells, cell}
use Rattle.rows.specs.Lists.{row_of, cells_of}
use Rattle.rows.specs.declared.Rows.{Rows}
use Rattle.ties.specs.Ties.{Ties, entry_bytes, ties_in, wrong_cell, wrong_cells, precedes, wrong_order, wrong_sides, tie_tests}

pub wrong_cell_of : (s n : ℕ) (list row ties : List ℕ) (marks : Rows) (i t c d : ℕ) → t ≡ count_at ties (entry_bytes * i)
    → c ≡ count_at ties (entry_bytes * i + 2) → row ≡ row_of list marks t → d ≡ cell row c
    → (k : ℕ) → not (ltb t s && (ltb c n && eqb d 1)) ≡ wrong_cell s n (cells_of list marks) (ties_in ties k) i
unfolding wrong_cell
wrong_cell_of s n list row ties marks i t c d et ec er ed k =
    ap (λ (x : ℕ). not (ltb t s && (ltb c n && eqb x 1))) (ed ∙ ap (λ (l : List ℕ). cell l c) er)
    ∙ ap₂ (λ (x y : ℕ). not (ltb x s && (ltb y n && eqb (cells_of list marks x y) 1))) et ec

pub precedes_of : (ties : List ℕ) (i j t u c d : ℕ) → t ≡ count_at ties (entry_bytes * i) → u ≡ count_at ties (entry_bytes * j)
    → c ≡ count_at ties (entry_bytes * i + 2) → d ≡ count_at ties (entry_bytes * j + 2)
    → (k : ℕ) → j ≡ i + 1 → (ltb t u || (eqb t u && ltb c d)) ≡ precedes (ties_in ties k) i
unfolding precedes
precedes_of ties i j t u c d et eu ec ed k ej =
    let next : j ≡ suc i = ej ∙ add-one i in
    ap₂ (λ (x y : ℕ). ltb x y || (eqb x y && ltb c d)) et (eu ∙ ap (λ (x : ℕ). count_at ties (entry_bytes * x)) next)
    ∙ ap₂ (λ (x y : ℕ). ltb (count_at ties (entry_bytes * i)) (count_at ties (entry_bytes * suc i)) || (eqb (count_at ties (entry_bytes * i)) (count_at ties (entry_bytes * suc i)) && ltb x y))
    ec (ed ∙ ap (λ (x : ℕ). count_at ties (entry_bytes * x + 2)) next)

-- ---- a test of the entries below n, one after the other

or_false : (b : Bool) → (b || false) ≡ b
or_false true = refl
or_false false = refl

pub any_entry : (f : ℕ → Bool) (n : ℕ) → list_any f (range_with_len 0 n) ≡ any_below n f
unfolding any_below
any_entry f zero = refl
any_entry f (suc n) =
    ap (list_any f) one_more ∙ list_any-append f (range_with_len 0 n) (n ∷ []) ∙ ap₂ ◌||◌ (any_entry f n) (or_false (f n))
  where
    one_more : range_with_len 0 (suc n) ≡ range_with_len 0 n ++ n ∷ []
    one_more =
        ap (range_with_len 0) (sym (add-one n)) ∙ sym (map-id (range_with_len 0 (n + 1))) ∙ map-range_with_len_more (λ (x : ℕ). x) 0 n n (omega arith)
        ∙ ap (λ (l : List ℕ). l ++ n ∷ []) (map-id (range_with_len 0 n))

-- ---- all entries

pub tie_tests_none : (s n : ℕ) (u : ℕ → Cells) (e : Ties) → e.count ≡ 0 → 0 ≡ first_of (tie_tests s n u e)
unfolding wrong_cells wrong_order wrong_sides any_below
tie_tests_none s n u e z = rw z refl

-- marks of slices that there are
module _ (s n : ℕ) (u v : ℕ → Cells) (e : Ties) (same : (t : ℕ) → t < s → (c : ℕ) → u t c ≡ v t c) where
  wrong_cell_marks : (i : ℕ) → wrong_cell s n u e i ≡ wrong_cell s n v e i
  unfolding wrong_cell
  wrong_cell_marks i = by_slice (ltb (e.slice i) s) refl
    where
      by_slice : (b : Bool) → ltb (e.slice i) s ≡ b
          → not (ltb (e.slice i) s && (ltb (e.chain i) n && eqb (u (e.slice i) (e.chain i)) 1))
          ≡ not (ltb (e.slice i) s && (ltb (e.chain i) n && eqb (v (e.slice i) (e.chain i)) 1))
      by_slice true h =
          ap (λ (x : ℕ). not (ltb (e.slice i) s && (ltb (e.chain i) n && eqb x 1))) (same (e.slice i) (ltb-true (e.slice i) s h) (e.chain i))
      by_slice false h = rw h refl

  pub wrong_cells_marks : wrong_cells s n u e ≡ wrong_cells s n v e
  unfolding wrong_cells
  wrong_cells_marks = any_below_ext e.count (wrong_cell s n u e) (wrong_cell s n v e) (λ i l. wrong_cell_marks i)

  pub tie_tests_marks : first_of (tie_tests s n u e) ≡ first_of (tie_tests s n v e)
  tie_tests_marks = ap (λ (b : Bool). cond b 29 (cond (wrong_order e) 30 (cond (wrong_sides e) 31 0))) wrong_cells_marks
