-- The symbols' columns: how many, and how wide; the signature for all symbols 0 from the values as they stand; other values, the same
-- columns.
--
--   length_symbol_columns    one column for each symbol
--   symbol_columns_within    none has a bit at or above the width
--   zero_by_sides            where an unknown cell's value is 0, the signature for all symbols 0 is that of the values, XORed with the columns
--                            of the cells that take the opposite of their symbol
--   revised_symbols          with other values the columns stay
-- Assumes nothing.
use mathlib.Core.Path.{◌≡◌, refl, sym, ap, ap₂, ◌∙◌}
use mathlib.Core.Bool.{Bool, true, false, cond, not, ◌&&◌}
use mathlib.Core.Option.{Option, none, some}
use Prim.Native.Nat.{ℕ, zero, suc, ◌+◌, ◌%◌, ◌^◌, ◌<◌}
use native.Mathlib.Omega.{arith}
use borrow.Author.Tests.{eq-eqb, ne_eqb}
use lib.Bits.{bit_xor}
use lib.Dec.{eqb}
use lib.ListN.{length, get_or}
use lib.Pow.{pow_pos}
use Rattle.word.specs.Word.{beyond}
use Rattle.word.specs.Some.{any_below, any_of}
use Rattle.word.proofs.BoolLaws.{and_none}
use Rattle.word.proofs.SomeLaws.{any_below_none}
use Rattle.word.proofs.WordLaws.{not_beyond}
use Rattle.word.proofs.XorLaws.{xor_below_lt}
use Rattle.rows.specs.Marks.{listed}
use Rattle.ties.specs.Ties.{Ties}
use Rattle.ties.specs.Symbols.{naming, opens, first_mark, first_marks}
use Rattle.ties.proofs.SymbolLaws.{names_cell, naming_some}
use Rattle.register.specs.Circuit.{Circuit, chains}
use Rattle.signatures.specs.Signature.{Response, signature, column}
use Rattle.signatures.specs.Symbols.{symbol_column, side_columns, source_column, column_at, symbol_columns, symbol_count}
use Rattle.signatures.specs.Given.{Given, columns_for, side_of, zeroed, zero_signature_for, RevisedFrom}
use Rattle.signatures.proofs.SignatureLaws.{signature_ext}
use Rattle.signatures.proofs.ColumnLaws.{column_lt}
use Rattle.signatures.proofs.ListingLaws.{any_listing, marked_with, listing_ext, length_listing}
use Rattle.signatures.proofs.TieLaws.{tied, with_tied, digit_of, tied_cell}
use Rattle.signatures.proofs.FillingLaws.{SoundFor}

-- ---- how many

pub first_marks_lt : (u : Response) (e : Ties) → ((t c : ℕ) → u t c < 2) → (t c : ℕ) → first_marks u e t c < 2
unfolding first_marks
first_marks_lt u e hu t c = go (naming e t c)
  where
    by : (b : Bool) → cond {A = ℕ} b 1 0 < 2
    by true = omega arith
    by false = omega arith

    go : (o : Option ℕ) → first_mark e (u t c) o < 2
    go none = hu t c
    go (some i) = by (opens e i)

pub length_symbol_columns : (k : Circuit) (s : ℕ) (u : Response) (e : Ties) → ((t c : ℕ) → u t c < 2)
    → length (symbol_columns k s u e) ≡ symbol_count s (chains k) u e
length_symbol_columns k s u e hu = length_listing (column_at k s e) (first_marks u e) (chains k) (first_marks_lt u e hu) s

-- ---- how wide

module _ (k : Circuit) (s : ℕ) (e : Ties) (ht : k.taps < 2 ^ k.width) (hw : (d : ℕ) → get_or k.spread d 0 < 2 ^ k.width) where
  symbol_column_lt : (j : ℕ) → symbol_column k s e j < 2 ^ k.width
  unfolding symbol_column
  symbol_column_lt j =
      xor_below_lt k.width e.count (λ i. cond {A = ℕ} (eqb (e.symbol i) j) (column k s (e.slice i) (e.chain i)) 0)
      (λ i l. go (eqb (e.symbol i) j) (column k s (e.slice i) (e.chain i)) (column_lt k s (e.slice i) (e.chain i) ht hw))
    where
      go : (b : Bool) (w : ℕ) → w < 2 ^ k.width → cond {A = ℕ} b w 0 < 2 ^ k.width
      go true w h = h
      go false w h = pow_pos k.width

  column_at_lt : (t c : ℕ) → column_at k s e t c < 2 ^ k.width
  unfolding column_at
  column_at_lt t c = go (naming e t c)
    where
      go : (o : Option ℕ) → source_column k s e t c o < 2 ^ k.width
      go none = column_lt k s t c ht hw
      go (some i) = symbol_column_lt (e.symbol i)

  pub symbol_columns_within : (u : Response) → any_of (beyond k.width) (symbol_columns k s u e) ≡ false
  symbol_columns_within u =
      any_listing (column_at k s e) (first_marks u e) (chains k) (beyond k.width) s
      ∙ any_below_none s (λ t. any_below (chains k) (marked_with (beyond k.width) (column_at k s e t) (first_marks u e t)))
      (λ t lt. any_below_none (chains k) (marked_with (beyond k.width) (column_at k s e t) (first_marks u e t))
      (λ c lc.
      ap (λ (b : Bool). not (eqb (first_marks u e t c) 0) && b) (not_beyond k.width (column_at k s e t c) (column_at_lt t c))
      ∙ and_none (not (eqb (first_marks u e t c) 0))))

-- ---- all symbols 0

module _ (g : Given) (sound : SoundFor g) (hv : (t c : ℕ) → g.values t c < 2) (hm : (t c : ℕ) → g.marks t c < 2)
    (bare : (t c : ℕ) → t < g.slices → c < chains g.wiring → g.marks t c ≡ 1 → g.values t c ≡ 0) where
  -- a cell of the filling of zeros: its value, and its side
  by_sides : (t c : ℕ) → t < g.slices → c < chains g.wiring
      → zeroed g t c ≡ (g.values t c + tied g.ties.side g.ties g.ties.count t c) % 2
  by_sides t c lt lc = go (g.marks t c) refl (hm t c) (naming g.ties t c) refl
    where
      cell : tied g.ties.side g.ties g.ties.count t c ≡ digit_of g.ties.side (naming g.ties t c)
      cell = tied_cell g.slices (chains g.wiring) g.marks g.ties sound g.ties.side sound.sides t c

      known : g.marks t c ≡ 0 → zeroed g t c ≡ g.values t c
      known z = rw (eq-eqb (g.marks t c) 0 z)

      unknown : (o : Option ℕ) → naming g.ties t c ≡ o → g.marks t c ≡ 1 → zeroed g t c ≡ side_of g.ties o
      unknown o q z =
          ap₂ (λ (b : Bool) (x : Option ℕ). cond b (g.values t c) (side_of g.ties x)) (ne_eqb (g.marks t c) 0 (λ (e : g.marks t c ≡ 0). omega arith)) q

      go : (d : ℕ) → g.marks t c ≡ d → g.marks t c < 2 → (o : Option ℕ) → naming g.ties t c ≡ o
          → zeroed g t c ≡ (g.values t c + tied g.ties.side g.ties g.ties.count t c) % 2
      go zero m l none q =
          let still : tied g.ties.side g.ties g.ties.count t c ≡ 0 = cell ∙ ap (digit_of g.ties.side) q in
          omega (arith, still, known m, hv t c)
      go zero m l (some i) q =
          let found = naming_some g.ties g.ties.count t c i q in
          let at = names_cell g.ties i t c found.1 in
          let marked : g.marks t c ≡ 1 = ap₂ g.marks (sym at.0) (sym at.1) ∙ sound.unknown i found.0 in
          let clash : ⊥ = omega arith in absurd clash
      go (suc d) m l none q =
          let one : g.marks t c ≡ 1 = omega arith in
          let still : tied g.ties.side g.ties g.ties.count t c ≡ 0 = cell ∙ ap (digit_of g.ties.side) q in
          omega (arith, still, unknown none q one, bare t c lt lc one)
      go (suc d) m l (some i) q =
          let one : g.marks t c ≡ 1 = omega arith in
          let found = naming_some g.ties g.ties.count t c i q in
          let turned : tied g.ties.side g.ties g.ties.count t c ≡ g.ties.side i = cell ∙ ap (digit_of g.ties.side) q in
          omega (arith, turned, unknown (some i) q one, bare t c lt lc one, sound.sides i found.0)

  pub zero_by_sides : zero_signature_for g ≡ bit_xor (signature g.wiring g.values g.slices) (side_columns g.wiring g.slices g.ties)
  unfolding side_columns
  zero_by_sides =
      signature_ext g.wiring (zeroed g) (λ t c. (g.values t c + tied g.ties.side g.ties g.ties.count t c) % 2) g.slices by_sides
      ∙ with_tied g.wiring g.slices g.ties g.ties.side g.ties.count g.values hv

-- ---- other values

pub revised_symbols : (g h : Given) → RevisedFrom g h → columns_for g ≡ columns_for h
unfolding first_marks
revised_symbols g h r =
    listing_ext (column_at g.wiring g.slices g.ties) (column_at g.wiring g.slices g.ties) (first_marks g.marks g.ties)
    (first_marks h.marks g.ties) (chains g.wiring) g.slices
    (λ t c lt lc.
    ap (λ (d : ℕ). listed (first_mark g.ties d (naming g.ties t c)) (column_at g.wiring g.slices g.ties t c)) (r.same.marks t c lt lc))
    ∙ ap (λ (k : Circuit). symbol_columns k g.slices h.marks g.ties) r.same.wiring
    ∙ ap (λ (s : ℕ). symbol_columns h.wiring s h.marks g.ties) r.same.slices
    ∙ ap (symbol_columns h.wiring h.slices h.marks) r.ties
