-- Each way out of listing the columns: what it answers, and what the lent list holds.
--
--   Lists set l r l'     what the call answers, r, and leaves in the list l, l'
--   list_set_refused     the set is refused
--   list_past_set        past the set's numbers only 14 is left
--   list_short           the list is shorter than the number of symbols
--   list_answers         the columns are written
--   bare_short           the marks of a taken set counted are its symbols, where it has no entries of ties, and the list is shorter
--   bare_listed          the columns of its marked cells are the set's, where it has none
-- Assumes nothing.
use mathlib.Core.Path.{◌≡◌, refl, sym, ap, ap₂, ◌∙◌}
use mathlib.Core.List.{List, [], ◌∷◌, ◌++◌}
use Prim.Native.Nat.{ℕ, ◌≤◌, ◌<◌, min}
use native.Mathlib.Omega.{arith}
use borrow.Author.Tests.{lt-ltb, le-ltb}
use lib.Dec.{ltb}
use lib.ListN.{length, take, drop}
use lib.Seq.{length-take-le}
use Rattle.word.specs.Reply.{◌when◌, Reply, answer, refusal, first_of, front, lent}
use Rattle.word.proofs.ReplyLaws.{refused_leaves, answered_writes}
use Rattle.word.proofs.TestLaws.{first_of_later, first_sooner}
use Rattle.std.specs.Prelude.{Result, Err}
use Rattle.refusals.specs.declared.Refusal.{Refusal}
use Rattle.refusals.specs.Refusals.{number}
use Rattle.refusals.proofs.RefusalLaws.{not_zero, refused_call_leaves}
use Rattle.rows.specs.Lists.{cells_of}
use Rattle.rows.specs.Marks.{total}
use Rattle.rows.specs.declared.Rows.{Rows}
use Rattle.register.specs.Circuit.{Circuit}
use Rattle.marked_words.specs.Back.{back}
use Rattle.marked_words.proofs.BackLaws.{back_whole}
use Rattle.set_layout.specs.Layout.{circuit_of, slices_of, marks, tie_count_of}
use Rattle.set_file.specs.Reading.{set_tests, taken_circuit, TakenFrom}
use Rattle.set_file.specs.declared.Taken.{Taken}
use Rattle.set_file.proofs.Laws.{set_numbered}
use Rattle.signatures.specs.Columns.{columns_below}
use Rattle.signatures.specs.Sets.{given, columns_of, symbols_of, unknowns_of}
use Rattle.signatures.proofs.ColumnLaws.{columns_ext}
use Rattle.signatures.proofs.FreeLaws.{columns_free, symbols_free}
use Rattle.signatures.proofs.SetLaws.{length_columns}
use Rattle.signatures.proofs.TakenLaws.{own_slices, Marks, own_marks, unknowns_counted}
use Rattle.columns.specs.Listing.{list_tests, list_reply, said_listed}

-- ---- the ways out

abbrev pub Lists : List ℕ → List ℕ → Reply ℕ → List ℕ → Type 0
Lists set l r l' = (r ≡ list_reply set (length l)) × (l' ≡ lent (list_reply set (length l)) (columns_of set) l)

pub list_set_refused : (set l : List ℕ) (r : Result ℕ Refusal) (e : Refusal) → r ≡ Err e → number e ≡ first_of (set_tests set) → Lists set l (said_listed r) l
unfolding list_reply list_tests
list_set_refused set l r e is h =
    refused_call_leaves (λ n. n) r e _ (symbols_of set) (columns_of set) l is (first_sooner (set_tests set) _ (number e) h (not_zero e))

pub list_past_set : (set : List ℕ) (room : ℕ) → first_of (set_tests set) ≡ 0 → first_of (list_tests set room) ≡ first_of (14 when ltb room (symbols_of set) ∷ [])
unfolding list_tests
list_past_set set room h = first_of_later (set_tests set) _ (set_numbered set) h

module _ (set l : List ℕ) (none : first_of (set_tests set) ≡ 0) (symbols : ℕ) (many : symbols ≡ symbols_of set) where
  pub list_short : length l < symbols → Lists set l (refusal 14) l
  unfolding list_reply
  list_short h =
      refused_leaves _ 14 (symbols_of set) (columns_of set) l
      (sym (list_past_set set (length l) none ∙ (rw (lt-ltb (length l) (symbols_of set) (omega (arith, many)))))) (λ (z : 14 ≡ 0). omega arith)

  pub list_answers : (part : List ℕ) → symbols ≤ length l → part ≡ columns_of set → Lists set l (answer symbols) (part ++ drop symbols l)
  unfolding list_reply front
  list_answers part h written =
      answered_writes _ 0 (symbols_of set) symbols (columns_of set) l (part ++ drop symbols l)
      (sym (list_past_set set (length l) none ∙ (rw (le-ltb (length l) (symbols_of set) (omega (arith, many)))))) refl many
      (ap₂ (λ (x : List ℕ) (y : ℕ). x ++ drop y l) written (many ∙ sym (length_columns set)))

-- ---- a taken set

module _ (set : List ℕ) (k : Taken) (taken : TakenFrom set k) where
  module _ (r : Rows) (e : Marks r k.n) where
    -- without entries of ties
    module _ (count : ℕ) (ec : count ≡ tie_count_of set) (z : count ≡ 0) where
      bare_symbols : (symbols : ℕ) → symbols ≡ total k.s (λ t. total 256 (cells_of set r t)) → symbols ≡ symbols_of set
      unfolding unknowns_of symbols_of
      bare_symbols symbols es = unknowns_counted set k taken r e symbols es ∙ sym (symbols_free (given set) (sym ec ∙ z))

      columns_are : columns_below (taken_circuit k) (min k.s 512) (cells_of set r) (min k.s 512) ≡ columns_of set
      unfolding columns_of
      columns_are =
          ap₂ (λ (x : Circuit) (y : ℕ). columns_below x y (cells_of set r) y) taken.circuit (own_slices set k taken)
          ∙ columns_ext (circuit_of set) (slices_of set) (cells_of set r) (marks set) (slices_of set) (λ t c lt lc. own_marks set k taken r e t c)
          ∙ sym (columns_free (given set) (sym ec ∙ z))

      bare_columns : (symbols : ℕ) (l part : List ℕ) → symbols ≡ symbols_of set → symbols ≤ length l
          → part ≡ back (columns_below (taken_circuit k) (min k.s 512) (cells_of set r) (min k.s 512)) (take symbols l) → part ≡ columns_of set
      bare_columns symbols l part many h ep =
          ep ∙ ap (λ (x : List ℕ). back x (take symbols l)) columns_are
          ∙ back_whole (columns_of set) (take symbols l) (length_columns set ∙ sym many ∙ sym (length-take-le symbols l h))

      -- the ways out
      module _ (symbols : ℕ) (es : symbols ≡ total k.s (λ t. total 256 (cells_of set r t))) (l : List ℕ) where
        pub bare_short : length l < symbols → Lists set l (refusal 14) l
        bare_short h = list_short set l taken.none symbols (bare_symbols symbols es) h

        pub bare_listed : (part : List ℕ) → symbols ≤ length l
            → part ≡ back (columns_below (taken_circuit k) (min k.s 512) (cells_of set r) (min k.s 512)) (take symbols l)
            → Lists set l (answer symbols) (part ++ drop symbols l)
        bare_listed part h ep =
            list_answers set l taken.none symbols (bare_symbols symbols es) part h (bare_columns symbols l part (bare_symbols symbols es) h ep)
