-- Which columns the symbols have: those of the free cells, and those of the named symbols.
--
--   free_member     the column of a free cell is listed
--   first_member    .. and that of a named symbol, where its first cell is
--   same_members    nothing else is: the symbols' columns, free cells first
-- Assumes nothing.
use mathlib.Core.Path.{◌≡◌, refl, sym, ap, ◌∙◌}
use mathlib.Core.Bool.{Bool, true, false, cond, ◌||◌}
use mathlib.Core.Logic.{⊎_elim}
use mathlib.Core.List.{List, ◌++◌}
use mathlib.Core.Option.{Option, none, some}
use Prim.Native.Nat.{ℕ, ◌<◌}
use native.Mathlib.Omega.{arith}
use lib.Dec.{eqb}
use Rattle.word.specs.Some.{any_of}
use Rattle.word.proofs.BoolLaws.{iff_eq, or_cases, or_true_left, or_true_right}
use Rattle.word.proofs.SomeLaws.{any_of_append}
use Rattle.ties.specs.Ties.{Ties}
use Rattle.ties.specs.Symbols.{naming, opens, flag, free_mark, free_marks, first_mark, first_marks, SoundTies}
use Rattle.ties.proofs.SymbolLaws.{naming_some, naming_own}
use Rattle.register.specs.Circuit.{Circuit, chains}
use Rattle.signatures.specs.Signature.{Response, column}
use Rattle.signatures.specs.Columns.{columns_below}
use Rattle.signatures.specs.Symbols.{symbol_column, source_column, column_at, listing, named_columns, symbol_columns}
use Rattle.signatures.proofs.ListingLaws.{marked_word, marked_some, listing_at, listing_some, listing_columns}

module _ (k : Circuit) (s : ℕ) (u : Response) (e : Ties) where
  -- the columns of the free cells
  abbrev pub free_columns : List ℕ
  free_columns = columns_below k s (free_marks u e) s

  pub free_member : (w : ℕ) → any_of (eqb w) free_columns ≡ true → any_of (eqb w) (symbol_columns k s u e) ≡ true
  unfolding free_marks first_marks column_at
  free_member w p =
      let found = listing_some (column k s) (free_marks u e) (chains k) s w (ap (any_of (eqb w)) (sym (listing_columns k s (free_marks u e) s)) ∙ p) in
      let t = found.0 in
      let c = found.1 in
      go t c found.2 found.3 found.4 found.5 (naming e t c) refl
    where
      go : (t c : ℕ) → t < s → c < chains k → (free_marks u e t c ≡ 0 → ⊥) → w ≡ column k s t c → (o : Option ℕ) → naming e t c ≡ o
          → any_of (eqb w) (symbol_columns k s u e) ≡ true
      go t c lt lc m q none o =
          let mark : first_marks u e t c ≡ free_marks u e t c = ap (first_mark e (u t c)) o ∙ sym (ap (free_mark (u t c)) o) in
          ap (λ (x : ℕ). any_of (eqb x) (symbol_columns k s u e)) (q ∙ sym (ap (source_column k s e t c) o))
          ∙ listing_at (column_at k s e) (first_marks u e) (chains k) s t c lt lc (λ (z : first_marks u e t c ≡ 0). m (sym mark ∙ z))
      go t c lt lc m q (some i) o = absurd (m (ap (free_mark (u t c)) o))

  module _ (sound : SoundTies s (chains k) u e) where
    pub first_member : (h : ℕ) → h < e.count → opens e h ≡ true → any_of (eqb (symbol_column k s e (e.symbol h))) (symbol_columns k s u e) ≡ true
    unfolding first_marks column_at
    first_member h l p =
        let found = naming_own s (chains k) u e sound h l in
        let mark : first_marks u e (e.slice h) (e.chain h) ≡ 1 = ap (first_mark e (u (e.slice h) (e.chain h))) found ∙ ap (λ (b : Bool). cond b 1 0) p in
        let word : column_at k s e (e.slice h) (e.chain h) ≡ symbol_column k s e (e.symbol h) = ap (source_column k s e (e.slice h) (e.chain h)) found in
        ap (λ (w : ℕ). any_of (eqb w) (symbol_columns k s u e)) (sym word)
        ∙ listing_at (column_at k s e) (first_marks u e) (chains k) s (e.slice h) (e.chain h) (sound.slices h l) (sound.chains h l)
        (λ (z : first_marks u e (e.slice h) (e.chain h) ≡ 0). omega arith)

    flag_opens : (i : ℕ) → (flag e i ≡ 0 → ⊥) → opens e i ≡ true
    flag_opens i m = go (opens e i) refl
      where
        go : (b : Bool) → opens e i ≡ b → opens e i ≡ true
        go true q = q
        go false q = absurd (m (ap (λ (b : Bool). cond b 1 0) q))

    named_member : (w : ℕ) → any_of (eqb w) (named_columns k s e) ≡ true → any_of (eqb w) (symbol_columns k s u e) ≡ true
    unfolding named_columns
    named_member w p =
        let found = marked_some (λ i. symbol_column k s e (e.symbol i)) (flag e) e.count w p in
        ap (λ (x : ℕ). any_of (eqb x) (symbol_columns k s u e)) found.3 ∙ first_member found.0 found.1 (flag_opens found.0 found.2)

    -- a listed column is a free cell's, or a named symbol's
    listed_member : (w : ℕ) → any_of (eqb w) (symbol_columns k s u e) ≡ true → any_of (eqb w) (free_columns ++ named_columns k s e) ≡ true
    unfolding first_marks column_at free_marks named_columns
    listed_member w p =
        let found = listing_some (column_at k s e) (first_marks u e) (chains k) s w p in
        any_of_append (eqb w) free_columns (named_columns k s e)
        ∙ go found.0 found.1 found.2 found.3 found.4 found.5 (naming e found.0 found.1) refl
      where
        go : (t c : ℕ) → t < s → c < chains k → (first_marks u e t c ≡ 0 → ⊥) → w ≡ column_at k s e t c → (o : Option ℕ) → naming e t c ≡ o
            → (any_of (eqb w) free_columns || any_of (eqb w) (named_columns k s e)) ≡ true
        go t c lt lc m q none o =
            let mark : first_marks u e t c ≡ free_marks u e t c = ap (first_mark e (u t c)) o ∙ sym (ap (free_mark (u t c)) o) in
            or_true_left (any_of (eqb w) free_columns) (any_of (eqb w) (named_columns k s e))
            (ap (any_of (eqb w)) (listing_columns k s (free_marks u e) s)
            ∙ ap (λ (x : ℕ). any_of (eqb x) (listing (column k s) (free_marks u e) (chains k) s)) (q ∙ ap (source_column k s e t c) o)
            ∙ listing_at (column k s) (free_marks u e) (chains k) s t c lt lc (λ (z : free_marks u e t c ≡ 0). m (mark ∙ z)))
        go t c lt lc m q (some i) o =
            let found = naming_some e e.count t c i o in
            or_true_right (any_of (eqb w) free_columns) (any_of (eqb w) (named_columns k s e))
            (ap (λ (x : ℕ). any_of (eqb x) (named_columns k s e)) (q ∙ ap (source_column k s e t c) o)
            ∙ marked_word (λ h. symbol_column k s e (e.symbol h)) (flag e) e.count i found.0 (λ (z : flag e i ≡ 0). m (ap (first_mark e (u t c)) o ∙ z)))

    pub same_members : (w : ℕ) → any_of (eqb w) (symbol_columns k s u e) ≡ any_of (eqb w) (free_columns ++ named_columns k s e)
    same_members w =
        iff_eq _ _ (listed_member w)
        (λ (p : any_of (eqb w) (free_columns ++ named_columns k s e) ≡ true).
        ⊎_elim (free_member w) (named_member w)
        (or_cases (any_of (eqb w) free_columns) (any_of (eqb w) (named_columns k s e)) (sym (any_of_append (eqb w) free_columns (named_columns k s e)) ∙ p)))
