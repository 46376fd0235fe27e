-- The laws of columns: the column of a cell is its chain's spread word, advanced once for each later slice, whatever the inversion word
-- is; there are as many as unknown cells, and none leaves the width. Assumes nothing.
use mathlib.Core.Path.{◌≡◌, refl, sym, ap, ap₂, ◌∙◌}
use mathlib.Core.Bool.{Bool, false, true, cond, ◌&&◌}
use mathlib.Core.Logic.{⊎_elim, dite}
use mathlib.Core.List.{◌++◌}
use Prim.Native.Nat.{ℕ, zero, suc, ◌+◌, ◌-◌, ◌^◌, ◌≤◌, ◌<◌}
use native.Mathlib.Nat.{eq-or-lt_of_le, le_of_suc-le-suc, not-suc-le-zero}
use native.Mathlib.Decide.{ℕ_discrete}
use native.Mathlib.Omega.{arith}
use borrow.Author.Tests.{eq-eqb, ne_eqb}
use lib.Bits.{bit_xor}
use lib.Dec.{eqb}
use lib.ListN.{length, get_or, length-append}
use lib.Pow.{pow_pos}
use Rattle.word.specs.Word.{beyond}
use Rattle.word.specs.Some.{any_of}
use Rattle.word.proofs.BoolLaws.{or_false, and_none}
use Rattle.word.proofs.SomeLaws.{any_of_append}
use Rattle.word.proofs.WordLaws.{not_beyond}
use Rattle.rows.specs.Marks.{listed, total}
use Rattle.rows.proofs.MarkLaws.{length_listed}
use Rattle.register.specs.Circuit.{Circuit, uninverted, chains, advanced}
use Rattle.register.proofs.Laws.{clocked_ext, clocked_uninverted, clocked_zero, advanced_zero}
use Rattle.chains.proofs.Laws.{driven_ext, driven_unit}
use Rattle.signatures.specs.Signature.{Response, runs, signature, only_cell, column}
use Rattle.signatures.specs.Later.{later}
use Rattle.signatures.specs.Columns.{slice_columns, columns_below}
use Rattle.signatures.proofs.SignatureLaws.{signature_ext, signature_zero, signature_lt, runs_suc}

-- ---- the response with one cell

pub only_cell_lt : (t c u d : ℕ) → only_cell t c u d < 2
only_cell_lt t c u d = go (eqb u t && eqb d c)
  where
    go : (b : Bool) → cond {A = ℕ} b 1 0 < 2
    go true = omega arith
    go false = omega arith

pub only_cell_here : (t c d : ℕ) → only_cell t c t d ≡ cond (eqb d c) 1 0
only_cell_here t c d = rw (eq-eqb t t refl)

pub only_cell_other_slice : (t c u d : ℕ) → (u ≡ t → ⊥) → only_cell t c u d ≡ 0
only_cell_other_slice t c u d h = rw (ne_eqb u t h)

pub only_cell_other_chain : (t c u d : ℕ) → (d ≡ c → ⊥) → only_cell t c u d ≡ 0
only_cell_other_chain t c u d h = rw (ne_eqb d c h, and_none (eqb u t))

pub only_cell_other : (t c u d : ℕ) → (u ≡ t → d ≡ c → ⊥) → only_cell t c u d ≡ 0
only_cell_other t c u d h =
    dite (ℕ_discrete u t)
    (λ (p : u ≡ t). dite (ℕ_discrete d c) (λ (q : d ≡ c). absurd (h p q)) (only_cell_other_chain t c u d)) (only_cell_other_slice t c u d)

pub only_cell_same : (t c : ℕ) → only_cell t c t c ≡ 1
only_cell_same t c = rw (eq-eqb t t refl, eq-eqb c c refl)

-- ---- a column

module _ (k : Circuit) (t c : ℕ) where
  -- the register without inversion, which columns are made with
  abbrev plain : Circuit
  plain = uninverted k

  -- before its slice the one cell leaves the register at zero
  before : (s : ℕ) → s ≤ t → signature plain (only_cell t c) s ≡ 0
  before s h =
      signature_ext plain (only_cell t c) (λ u d. 0) s (λ u d l m. only_cell_other_slice t c u d (λ (e : u ≡ t). omega arith))
      ∙ signature_zero k s

  at_its_slice : c < chains k → signature plain (only_cell t c) (suc t) ≡ get_or k.spread c 0
  at_its_slice h =
      runs_suc plain (only_cell t c) t ∙ clocked_uninverted k (only_cell t c t) (runs plain (only_cell t c) t)
      ∙ ap₂ bit_xor (ap (advanced k.width k.taps) (before t (omega arith)) ∙ advanced_zero k.width k.taps)
      (driven_ext k.spread (only_cell t c t) (λ d. cond (eqb d c) 1 0) (chains k) (λ d l. only_cell_here t c d)
      ∙ driven_unit k.spread c (chains k) h)

  after : (s : ℕ) → t < s → signature plain (only_cell t c) (suc s) ≡ advanced k.width k.taps (signature plain (only_cell t c) s)
  after s h =
      runs_suc plain (only_cell t c) s
      ∙ clocked_ext plain (only_cell t c s) (λ d. 0) (runs plain (only_cell t c) s)
      (λ d l. only_cell_other_slice t c s d (λ (e : s ≡ t). omega arith))
      ∙ clocked_zero k (runs plain (only_cell t c) s)

  -- the inversion word changes no column
  pub column_uninverted : (s : ℕ) → column k s t c ≡ column (uninverted k) s t c
  unfolding column
  column_uninverted s = refl

  -- one more slice behind it advances a column once
  pub column_next : (s : ℕ) → t < s → column k (suc s) t c ≡ advanced k.width k.taps (column k s t c)
  unfolding column
  column_next s h = after s h

  -- document 01: "Giving the last slice's cell one clock too many: its column is the spread word itself."
  pub column_last : c < chains k → column k (suc t) t c ≡ get_or k.spread c 0
  unfolding column
  column_last h = at_its_slice h

pub column_closed : (k : Circuit) (s t c : ℕ) → t < s → c < chains k → column k s t c ≡ later k (s - 1 - t) (get_or k.spread c 0)
unfolding later
column_closed k zero t c h hc = absurd (not-suc-le-zero h)
column_closed k (suc s) t c h hc =
    ⊎_elim last (λ (l : t < s). behind l (column_closed k s t c l hc)) (eq-or-lt_of_le (le_of_suc-le-suc h))
  where
    last : t ≡ s → column k (suc s) t c ≡ later k (suc s - 1 - t) (get_or k.spread c 0)
    last e =
        let none : suc s - 1 - t ≡ 0 = omega arith in
        ap (λ (x : ℕ). column k (suc x) t c) (sym e) ∙ column_last k t c hc ∙ ap (λ (x : ℕ). later k x (get_or k.spread c 0)) (sym none)

    behind : t < s → column k s t c ≡ later k (s - 1 - t) (get_or k.spread c 0) → column k (suc s) t c ≡ later k (suc s - 1 - t) (get_or k.spread c 0)
    behind l ih =
        let more : suc s - 1 - t ≡ suc (s - 1 - t) = omega arith in
        column_next k t c s l ∙ ap (advanced k.width k.taps) ih ∙ ap (λ (x : ℕ). later k x (get_or k.spread c 0)) (sym more)

pub column_lt : (k : Circuit) (s t c : ℕ) → k.taps < 2 ^ k.width → ((d : ℕ) → get_or k.spread d 0 < 2 ^ k.width)
    → column k s t c < 2 ^ k.width
unfolding column
column_lt k s t c ht hw = signature_lt (uninverted k) (only_cell t c) s ht (pow_pos k.width) hw

-- ---- how many columns

module _ (k : Circuit) (s : ℕ) (u : Response) where
  pub length_slice_columns : ((t c : ℕ) → u t c < 2) → (t c : ℕ) → length (slice_columns k s u t c) ≡ total c (u t)
  unfolding slice_columns total
  length_slice_columns hu t zero = refl
  length_slice_columns hu t (suc c) =
      length-append (slice_columns k s u t c) (listed (u t c) (column k s t c))
      ∙ ap₂ ◌+◌ (length_slice_columns hu t c) (length_listed (u t c) (column k s t c) (hu t c))

  pub length_columns_below : ((t c : ℕ) → u t c < 2) → (t : ℕ) → length (columns_below k s u t) ≡ total t (λ v. total (chains k) (u v))
  unfolding columns_below total
  length_columns_below hu zero = refl
  length_columns_below hu (suc t) =
      length-append (columns_below k s u t) (slice_columns k s u t (chains k))
      ∙ ap₂ ◌+◌ (length_columns_below hu t) (length_slice_columns hu t (chains k))

  -- ---- the marks alone decide which columns there are

  slice_columns_ext : (v : Response) (t c : ℕ) → ((d : ℕ) → d < c → u t d ≡ v t d) → slice_columns k s u t c ≡ slice_columns k s v t c
  unfolding slice_columns
  slice_columns_ext v t zero h = refl
  slice_columns_ext v t (suc c) h =
      ap₂ ◌++◌ (slice_columns_ext v t c (λ d l. h d (omega (arith, l)))) (ap (λ (d : ℕ). listed d (column k s t c)) (h c (omega arith)))

  pub columns_ext : (v : Response) (t : ℕ) → ((i c : ℕ) → i < t → c < chains k → u i c ≡ v i c) → columns_below k s u t ≡ columns_below k s v t
  unfolding columns_below
  columns_ext v zero h = refl
  columns_ext v (suc t) h =
      ap₂ ◌++◌ (columns_ext v t (λ i c l. h i c (omega (arith, l)))) (slice_columns_ext v t (chains k) (λ c. h t c (omega arith)))

  -- ---- no column has a bit at or above the width

  module _ (ht : k.taps < 2 ^ k.width) (hw : (d : ℕ) → get_or k.spread d 0 < 2 ^ k.width) where
    listed_within : (d t c : ℕ) → any_of (beyond k.width) (listed d (column k s t c)) ≡ false
    unfolding any_of
    listed_within zero t c = refl
    listed_within (suc d) t c = or_false _ _ (not_beyond k.width (column k s t c) (column_lt k s t c ht hw)) refl

    slice_within : (t c : ℕ) → any_of (beyond k.width) (slice_columns k s u t c) ≡ false
    unfolding slice_columns any_of
    slice_within t zero = refl
    slice_within t (suc c) =
        any_of_append (beyond k.width) (slice_columns k s u t c) (listed (u t c) (column k s t c))
        ∙ or_false _ _ (slice_within t c) (listed_within (u t c) t c)

    pub columns_within : (t : ℕ) → any_of (beyond k.width) (columns_below k s u t) ≡ false
    unfolding columns_below any_of
    columns_within zero = refl
    columns_within (suc t) =
        any_of_append (beyond k.width) (columns_below k s u t) (slice_columns k s u t (chains k))
        ∙ or_false _ _ (columns_within t) (slice_within t (chains k))
