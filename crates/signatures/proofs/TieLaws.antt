-- Cells that change together. The entries of ties, each as often as a digit says, are a response too; what XORing it in does to a signature
-- is the XOR of the columns of its cells, and in sound ties what it does to a cell is one entry's digit.
--
--   tied a e k          the response of the cells of the first k entries of e: each counts where its digit in a is 1
--   with_tied           XORing it in XORs the signature with the columns of these cells
--   tied_cell           the cell that an entry names holds that entry's digit, and a cell that none names 0
--   symbol_of_columns   where every entry with a symbol number counts, and no other, that is the symbol's column
--   symbol_listed       .. which is an XOR of the columns listed
--   together            the XOR of entries' columns, chosen by a digit for each symbol, is an XOR of the columns listed
-- Assumes nothing.
use mathlib.Core.Path.{◌≡◌, refl, sym, ap, ap₂, ◌∙◌}
use mathlib.Core.Bool.{Bool, true, false, cond}
use mathlib.Core.Logic.{⊎_elim, dite}
use mathlib.Core.Option.{Option, none, some}
use Prim.Native.Nat.{ℕ, zero, suc, ◌+◌, ◌%◌, ◌≤◌, ◌<◌}
use native.Mathlib.Nat.{not-suc-le-zero, eq-or-lt_of_le, le_of_suc-le-suc}
use native.Mathlib.Decide.{ℕ_discrete}
use native.Mathlib.Omega.{arith}
use borrow.Author.Tests.{eqb-true, eq-eqb, ne_eqb}
use lib.Bits.{bit_xor}
use lib.Dec.{eqb}
use Rattle.word.specs.Some.{any_below}
use Rattle.word.specs.Span.{is_xor_of, xor_below}
use Rattle.word.proofs.BoolLaws.{true_not_false}
use Rattle.word.proofs.Laws.{mod2_lt}
use Rattle.word.proofs.SomeLaws.{any_below_some, any_below_false}
use Rattle.word.proofs.SpanLaws.{xor_of_zero}
use Rattle.word.proofs.XorLaws.{xor_below_none, xor_below_suc, xor_below_ext, xor_below_zero, xor_below_one, xor_below_swap, xor_of_below, xor_of_member}
use Rattle.rows.specs.Marks.{total}
use Rattle.chains.specs.Driven.{chosen}
use Rattle.ties.specs.Ties.{Ties}
use Rattle.ties.specs.Symbols.{names, naming_below, naming, SoundTies}
use Rattle.ties.proofs.SymbolLaws.{names_cell, names_own, naming_some, one_name, opening}
use Rattle.register.specs.Circuit.{Circuit, uninverted, chains}
use Rattle.signatures.specs.Signature.{Response, signature, only_cell, column}
use Rattle.signatures.specs.Symbols.{symbol_column, symbol_columns}
use Rattle.signatures.proofs.SignatureLaws.{signature_xor, signature_zero}
use Rattle.signatures.proofs.ColumnLaws.{only_cell_lt, only_cell_other_slice, only_cell_other_chain, only_cell_same}
use Rattle.signatures.proofs.MemberLaws.{first_member}

-- ---- the response

pub tied : (ℕ → ℕ) → Ties → ℕ → Response
tied a e zero t c = 0
tied a e (suc k) t c = (tied a e k t c + chosen (a k) (only_cell (e.slice k) (e.chain k) t c)) % 2

pub tied_lt : (a : ℕ → ℕ) (e : Ties) (k t c : ℕ) → tied a e k t c < 2
unfolding tied
tied_lt a e zero t c = omega arith
tied_lt a e (suc k) t c = mod2_lt (tied a e k t c + chosen (a k) (only_cell (e.slice k) (e.chain k) t c))

chosen_digit : (d x : ℕ) → x < 2 → chosen d x < 2
chosen_digit zero x h = omega arith
chosen_digit (suc d) x h = h

-- ---- its signature

module _ (k : Circuit) (s : ℕ) (e : Ties) where
  -- the columns of the first n entries, each where its digit in a is 1
  abbrev pub chosen_columns : (ℕ → ℕ) → ℕ → ℕ
  chosen_columns a n = xor_below n (λ i. chosen (a i) (column k s (e.slice i) (e.chain i)))

  one_chosen : (d t c : ℕ) → signature (uninverted k) (λ v w. chosen d (only_cell t c v w)) s ≡ chosen d (column k s t c)
  unfolding column
  one_chosen zero t c = signature_zero k s
  one_chosen (suc d) t c = refl

  tied_signature : (a : ℕ → ℕ) (n : ℕ) → signature (uninverted k) (tied a e n) s ≡ chosen_columns a n
  unfolding tied
  tied_signature a zero = signature_zero k s ∙ sym (xor_below_none (λ i. chosen (a i) (column k s (e.slice i) (e.chain i))))
  tied_signature a (suc n) =
      signature_xor (uninverted k) (tied a e n) (λ t c. chosen (a n) (only_cell (e.slice n) (e.chain n) t c)) s (tied_lt a e n)
      (λ t c. chosen_digit (a n) (only_cell (e.slice n) (e.chain n) t c) (only_cell_lt (e.slice n) (e.chain n) t c))
      ∙ ap₂ bit_xor (tied_signature a n) (one_chosen (a n) (e.slice n) (e.chain n))
      ∙ sym (xor_below_suc n (λ i. chosen (a i) (column k s (e.slice i) (e.chain i))))

  pub with_tied : (a : ℕ → ℕ) (n : ℕ) (x : Response) → ((t c : ℕ) → x t c < 2)
      → signature k (λ t c. (x t c + tied a e n t c) % 2) s ≡ bit_xor (signature k x s) (chosen_columns a n)
  with_tied a n x hx = signature_xor k x (tied a e n) s hx (tied_lt a e n) ∙ ap (bit_xor (signature k x s)) (tied_signature a n)

-- ---- its cells

only_named : (e : Ties) (i t c : ℕ) → names e i t c ≡ true → only_cell (e.slice i) (e.chain i) t c ≡ 1
only_named e i t c h =
    let cell = names_cell e i t c h in
    ap₂ (λ (v w : ℕ). only_cell (e.slice i) (e.chain i) v w) (sym cell.0) (sym cell.1) ∙ only_cell_same (e.slice i) (e.chain i)

only_unnamed : (e : Ties) (i t c : ℕ) → names e i t c ≡ false → only_cell (e.slice i) (e.chain i) t c ≡ 0
only_unnamed e i t c h =
    dite (ℕ_discrete t (e.slice i))
    (λ (p : t ≡ e.slice i).
    dite (ℕ_discrete c (e.chain i))
    (λ (q : c ≡ e.chain i). absurd (true_not_false (names e i t c) (names_own e i t c (sym p) (sym q)) h))
    (only_cell_other_chain (e.slice i) (e.chain i) t c))
    (only_cell_other_slice (e.slice i) (e.chain i) t c)

chosen_one : (d : ℕ) → d < 2 → chosen d 1 ≡ d
chosen_one zero h = refl
chosen_one (suc zero) h = refl
chosen_one (suc (suc d)) h = let z : ⊥ = omega arith in absurd z

chosen_none : (d : ℕ) → chosen d 0 ≡ 0
chosen_none zero = refl
chosen_none (suc d) = refl

-- the digit of the entry that is found
abbrev pub digit_of : (ℕ → ℕ) → Option ℕ → ℕ
digit_of a none = 0
digit_of a (some i) = a i

module _ (s n : ℕ) (u : Response) (e : Ties) (sound : SoundTies s n u e) (a : ℕ → ℕ) (digits : (i : ℕ) → i < e.count → a i < 2) where
  tied_below : (t c k : ℕ) → k ≤ e.count → tied a e k t c ≡ digit_of a (naming_below e k t c)
  unfolding tied naming_below
  tied_below t c zero h = refl
  tied_below t c (suc k) h = go (names e k t c) refl (tied_below t c k (omega arith)) (naming_below e k t c) refl
    where
      go : (b : Bool) → names e k t c ≡ b → tied a e k t c ≡ digit_of a (naming_below e k t c) → (o : Option ℕ) → naming_below e k t c ≡ o
          → (tied a e k t c + chosen (a k) (only_cell (e.slice k) (e.chain k) t c)) % 2 ≡ digit_of a (cond b (some k) (naming_below e k t c))
      go true p ih none q =
          let before : tied a e k t c ≡ 0 = ih ∙ ap (digit_of a) q in
          let now : chosen (a k) (only_cell (e.slice k) (e.chain k) t c) ≡ a k = ap (chosen (a k)) (only_named e k t c p) ∙ chosen_one (a k) (digits k h) in
          omega (arith, before, now, digits k h)
      go true p ih (some i) q =
          let found = naming_some e k t c i q in
          let same : i ≡ k = one_name s n u e sound i k t c (omega (arith, found.0)) h found.1 p in
          let clash : ⊥ = omega (arith, found.0) in absurd clash
      go false p ih o q =
          let now : chosen (a k) (only_cell (e.slice k) (e.chain k) t c) ≡ 0 = ap (chosen (a k)) (only_unnamed e k t c p) ∙ chosen_none (a k) in
          omega (arith, ih, now, tied_lt a e k t c)

  pub tied_cell : (t c : ℕ) → tied a e e.count t c ≡ digit_of a (naming e t c)
  tied_cell t c = tied_below t c e.count (omega arith)

-- ---- a symbol's cells

-- a sum is no less than one of its terms
term_most : (n : ℕ) (f : ℕ → ℕ) (i : ℕ) → i < n → f i ≤ total n f
unfolding total
term_most zero f i l = absurd (not-suc-le-zero l)
term_most (suc n) f i l =
    ⊎_elim (λ (p : i ≡ n). rw p (omega arith)) (λ (m : i < n). omega (arith, term_most n f i m)) (eq-or-lt_of_le (le_of_suc-le-suc l))

chosen_cond : (b : Bool) (w : ℕ) → chosen (cond {A = ℕ} b 1 0) w ≡ cond {A = ℕ} b w 0
chosen_cond true w = refl
chosen_cond false w = refl

-- a digit for each entry: 1 where it has the symbol number j
abbrev pub has_symbol : Ties → ℕ → ℕ → ℕ
has_symbol e j i = cond (eqb (e.symbol i) j) 1 0

pub has_symbol_lt : (e : Ties) (j i : ℕ) → has_symbol e j i < 2
has_symbol_lt e j i = go (eqb (e.symbol i) j)
  where
    go : (b : Bool) → cond {A = ℕ} b 1 0 < 2
    go true = omega arith
    go false = omega arith

module _ (k : Circuit) (s : ℕ) (u : Response) (e : Ties) where
  pub symbol_of_columns : (j : ℕ) → chosen_columns k s e (has_symbol e j) e.count ≡ symbol_column k s e j
  unfolding symbol_column
  symbol_of_columns j =
      xor_below_ext e.count (λ i. chosen (has_symbol e j i) (column k s (e.slice i) (e.chain i)))
      (λ i. cond {A = ℕ} (eqb (e.symbol i) j) (column k s (e.slice i) (e.chain i)) 0)
      (λ i l. chosen_cond (eqb (e.symbol i) j) (column k s (e.slice i) (e.chain i)))

  module _ (sound : SoundTies s (chains k) u e) where
    pub symbol_listed : (j : ℕ) → is_xor_of (symbol_columns k s u e) (symbol_column k s e j) ≡ true
    unfolding symbol_column
    symbol_listed j = go (any_below e.count (λ i. eqb (e.symbol i) j)) refl
      where
        go : (b : Bool) → any_below e.count (λ i. eqb (e.symbol i) j) ≡ b → is_xor_of (symbol_columns k s u e) (symbol_column k s e j) ≡ true
        go true p =
            let one = any_below_some e.count (λ i. eqb (e.symbol i) j) p in
            let first = opening e one.0 in
            let same : e.symbol first.0 ≡ j = first.3 ∙ eqb-true (e.symbol one.0) j one.2 in
            ap (λ (i : ℕ). is_xor_of (symbol_columns k s u e) (symbol_column k s e i)) (sym same)
            ∙ xor_of_member (symbol_columns k s u e) (symbol_column k s e (e.symbol first.0))
            (first_member k s u e sound first.0 (omega (arith, first.1, one.1)) first.2)
        go false p =
            ap (is_xor_of (symbol_columns k s u e))
            (xor_below_zero e.count (λ i. cond {A = ℕ} (eqb (e.symbol i) j) (column k s (e.slice i) (e.chain i)) 0)
            (λ i l. ap (λ (b : Bool). cond {A = ℕ} b (column k s (e.slice i) (e.chain i)) 0) (any_below_false e.count (λ h. eqb (e.symbol h) j) p i l)))
            ∙ xor_of_zero (symbol_columns k s u e)

    -- ---- all symbols at once

    module _ (d : ℕ → ℕ) where
      -- entry i's column, where its symbol is j and j's digit is 1
      part : ℕ → ℕ → ℕ
      part i j = chosen (d j) (cond {A = ℕ} (eqb (e.symbol i) j) (column k s (e.slice i) (e.chain i)) 0)

      -- a number above all symbol numbers
      bound : ℕ
      bound = suc (total e.count e.symbol)

      one_symbol : (i : ℕ) → i < e.count → chosen (d (e.symbol i)) (column k s (e.slice i) (e.chain i)) ≡ xor_below bound (part i)
      unfolding part bound
      one_symbol i l =
          let own : part i (e.symbol i) ≡ chosen (d (e.symbol i)) (column k s (e.slice i) (e.chain i)) =
          ap (λ (b : Bool). chosen (d (e.symbol i)) (cond {A = ℕ} b (column k s (e.slice i) (e.chain i)) 0)) (eq-eqb (e.symbol i) (e.symbol i) refl)
          in
          sym (xor_below_one bound (part i) (e.symbol i) (omega (arith, term_most e.count e.symbol i l))
          (λ j m other.
          ap (λ (b : Bool). chosen (d j) (cond {A = ℕ} b (column k s (e.slice i) (e.chain i)) 0)) (ne_eqb (e.symbol i) j (λ (q : e.symbol i ≡ j). other (sym q)))
          ∙ chosen_none (d j))
          ∙ own)

      all_entries : (j : ℕ) → xor_below e.count (λ i. part i j) ≡ chosen (d j) (symbol_column k s e j)
      unfolding part symbol_column
      all_entries j = go (d j)
        where
          go : (b : ℕ) → xor_below e.count (λ i. chosen b (cond {A = ℕ} (eqb (e.symbol i) j) (column k s (e.slice i) (e.chain i)) 0)) ≡ chosen b (symbol_column k s e j)
          go zero = xor_below_zero e.count (λ i. 0) (λ i l. refl)
          go (suc b) = refl

      pub together : is_xor_of (symbol_columns k s u e) (chosen_columns k s e (λ i. d (e.symbol i)) e.count) ≡ true
      together =
          ap (is_xor_of (symbol_columns k s u e))
          (xor_below_ext e.count (λ i. chosen (d (e.symbol i)) (column k s (e.slice i) (e.chain i))) (λ i. xor_below bound (part i)) one_symbol
          ∙ xor_below_swap e.count bound part
          ∙ xor_below_ext bound (λ j. xor_below e.count (λ i. part i j)) (λ j. chosen (d j) (symbol_column k s e j)) (λ j l. all_entries j))
          ∙ xor_of_below (symbol_columns k s u e) bound (λ j. chosen (d j) (symbol_column k s e j)) (λ j l. each (d j) j)
        where
          each : (b j : ℕ) → is_xor_of (symbol_columns k s u e) (chosen b (symbol_column k s e j)) ≡ true
          each zero j = xor_of_zero (symbol_columns k s u e)
          each (suc b) j = symbol_listed j
