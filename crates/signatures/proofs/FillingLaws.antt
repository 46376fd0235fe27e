-- The explained signatures are those that differ from the signature for all symbols 0 by an XOR of the symbols' columns. For what is given
-- with values that are digits, and sound ties.
--
--   known_differ        responses that are alike in every known cell, and both obey the ties, differ by an XOR of columns
--   zeroed_filling      the response with all symbols 0 is a filling
--   explained_differs   an explained signature differs from that of the response with all symbols 0 by an XOR of columns
--   differs_explained   .. and a signature that does is explained
-- Assumes nothing.
use mathlib.Core.Path.{◌≡◌, refl, sym, ap, ap₂, ◌∙◌, subst}
use mathlib.Core.Bool.{Bool, true, false, cond}
use mathlib.Core.Option.{Option, none, some}
use Prim.Native.Nat.{ℕ, ◌+◌, ◌%◌, ◌<◌}
use native.Mathlib.Omega.{arith}
use borrow.Author.Tests.{eq-eqb, ne_eqb}
use lib.Bits.{bit_xor, xor_zero_r, xor_comm}
use lib.Dec.{eqb}
use Rattle.word.specs.Some.{any_of}
use Rattle.word.specs.Span.{is_xor_of}
use Rattle.word.proofs.BoolLaws.{true_not_false}
use Rattle.word.proofs.Laws.{mod2_lt, xor_assoc, xor_cancel}
use Rattle.word.proofs.SpanLaws.{xor_of_xor}
use Rattle.word.proofs.XorLaws.{xor_of_member, xor_of_inside, xor_of_moves}
use Rattle.ties.specs.Symbols.{names, naming, free_mark, free_marks, first_mark, first_marks, SoundTies}
use Rattle.ties.proofs.SymbolLaws.{names_cell, names_own, naming_some, naming_none, naming_own}
use Rattle.register.specs.Circuit.{chains}
use Rattle.signatures.specs.Signature.{Response, signature, only_cell, column}
use Rattle.signatures.specs.Symbols.{symbol_column, source_column, column_at}
use Rattle.signatures.specs.Given.{Given, KnownCell, ObeysTies, FillingOf, ExplainedBy, columns_for, side_of, zeroed, zero_signature_for}
use Rattle.signatures.proofs.ColumnLaws.{only_cell_other}
use Rattle.signatures.proofs.ListingLaws.{listing_some}
use Rattle.signatures.proofs.MemberLaws.{free_columns, free_member}
use Rattle.signatures.proofs.DifferenceLaws.{alike_differ, flipped, flip_column}
use Rattle.signatures.proofs.TieLaws.{tied, chosen_columns, with_tied, digit_of, tied_cell, has_symbol, has_symbol_lt, symbol_of_columns, together}

-- ties that are sound where they are given
abbrev pub SoundFor : Given → Type 0
SoundFor g = SoundTies g.slices (chains g.wiring) g.marks g.ties

module _ (g : Given) (sound : SoundFor g) where
  -- ---- responses that are alike in every known cell

  module _ (x y : Response) (hx : (t c : ℕ) → x t c < 2) (hy : (t c : ℕ) → y t c < 2) (h : (t c : ℕ) → KnownCell g t c → x t c ≡ y t c)
      (ox : ObeysTies g.ties x) (oy : ObeysTies g.ties y) where
    -- the symbols in which they differ
    apart : ℕ → ℕ
    apart j = (ox.symbols j + oy.symbols j) % 2

    abbrev apart_at : ℕ → ℕ
    apart_at i = apart (g.ties.symbol i)

    -- y with the symbols of x
    abbrev between : Response
    between t c = (y t c + tied apart_at g.ties g.ties.count t c) % 2

    symbols_same : (v w a z p q d : ℕ) → a ≡ (v + z) % 2 → p ≡ (w + z) % 2 → q ≡ d → d ≡ (v + w) % 2 → a ≡ (p + q) % 2
    symbols_same v w a z p q d ea ep eq ed = omega arith

    -- outside the free cells that is x
    between_known : (t c : ℕ) → t < g.slices → c < chains g.wiring → free_marks g.marks g.ties t c ≡ 0 → x t c ≡ between t c
    unfolding free_marks apart
    between_known t c lt lc z = go (naming g.ties t c) refl z
      where
        cell : tied apart_at g.ties g.ties.count t c ≡ digit_of apart_at (naming g.ties t c)
        cell =
            tied_cell g.slices (chains g.wiring) g.marks g.ties sound apart_at
            (λ i l. mod2_lt (ox.symbols (g.ties.symbol i) + oy.symbols (g.ties.symbol i))) t c

        go : (o : Option ℕ) → naming g.ties t c ≡ o → free_mark (g.marks t c) (naming g.ties t c) ≡ 0 → x t c ≡ between t c
        go none q w =
            let same : x t c ≡ y t c = h t c (record { slice = lt; chain = lc; unmarked = sym (ap (free_mark (g.marks t c)) q) ∙ w }) in
            let still : tied apart_at g.ties g.ties.count t c ≡ 0 = cell ∙ ap (digit_of apart_at) q in
            omega (arith, same, still, hy t c)
        go (some i) q w =
            let found = naming_some g.ties g.ties.count t c i q in
            let at = names_cell g.ties i t c found.1 in
            symbols_same (ox.symbols (g.ties.symbol i)) (oy.symbols (g.ties.symbol i)) (x t c) (g.ties.side i) (y t c)
            (tied apart_at g.ties g.ties.count t c) (apart_at i) (ap₂ x (sym at.0) (sym at.1) ∙ ox.held i found.0)
            (ap₂ y (sym at.0) (sym at.1) ∙ oy.held i found.0) (cell ∙ ap (digit_of apart_at) q) refl

    pub known_differ : is_xor_of (columns_for g) (bit_xor (signature g.wiring y g.slices) (signature g.wiring x g.slices)) ≡ true
    known_differ =
        let k = g.wiring in
        let s = g.slices in
        let free = alike_differ k s (free_marks g.marks g.ties) x between hx (λ t c. mod2_lt (y t c + tied apart_at g.ties g.ties.count t c)) between_known in
        let moved : signature k between s ≡ bit_xor (signature k y s) (chosen_columns k s g.ties apart_at g.ties.count) =
        with_tied k s g.ties apart_at g.ties.count y hy
        in
        let all : is_xor_of (columns_for g) (bit_xor (signature k between s) (signature k x s)) ≡ true =
        xor_of_inside (free_columns k s g.marks g.ties) (columns_for g)
        (λ w p. xor_of_member (columns_for g) w (free_member k s g.marks g.ties w p)) (bit_xor (signature k between s) (signature k x s)) free
        in
        ap (is_xor_of (columns_for g))
        (sym (ap (λ (z : ℕ). bit_xor moves (bit_xor z (signature k x s))) moved ∙ crossed (signature k y s) moves (signature k x s)))
        ∙ xor_of_xor (columns_for g) moves (bit_xor (signature k between s) (signature k x s))
        (together k s g.marks g.ties sound apart) all
      where
        moves : ℕ
        moves = chosen_columns g.wiring g.slices g.ties apart_at g.ties.count

        crossed : (a d z : ℕ) → bit_xor d (bit_xor (bit_xor a d) z) ≡ bit_xor a z
        crossed a d z = ap (λ (v : ℕ). bit_xor d (bit_xor v z)) (xor_comm a d) ∙ ap (bit_xor d) (xor_assoc d a z) ∙ xor_cancel d (bit_xor a z)

  -- ---- the filling of zeros

  zeroed_known : (t c : ℕ) → g.marks t c ≡ 0 → zeroed g t c ≡ g.values t c
  zeroed_known t c z = rw (eq-eqb (g.marks t c) 0 z)

  module _ (hv : (t c : ℕ) → g.values t c < 2) where
    side_lt : (t c : ℕ) (o : Option ℕ) → naming g.ties t c ≡ o → side_of g.ties o < 2
    side_lt t c none q = omega arith
    side_lt t c (some i) q = sound.sides i (naming_some g.ties g.ties.count t c i q).0

    zeroed_lt : (t c : ℕ) → zeroed g t c < 2
    zeroed_lt t c = go (eqb (g.marks t c) 0)
      where
        go : (b : Bool) → cond b (g.values t c) (side_of g.ties (naming g.ties t c)) < 2
        go true = hv t c
        go false = side_lt t c (naming g.ties t c) refl

    -- a named cell holds its side
    zeroed_named : (i : ℕ) → i < g.ties.count → zeroed g (g.ties.slice i) (g.ties.chain i) ≡ (0 + g.ties.side i) % 2
    zeroed_named i l =
        let marked : eqb (g.marks (g.ties.slice i) (g.ties.chain i)) 0 ≡ false =
        ne_eqb (g.marks (g.ties.slice i) (g.ties.chain i)) 0 (λ (z : g.marks (g.ties.slice i) (g.ties.chain i) ≡ 0). omega (arith, sound.unknown i l))
        in
        let found = naming_own g.slices (chains g.wiring) g.marks g.ties sound i l in
        let small = sound.sides i l in
        let same : g.ties.side i ≡ (0 + g.ties.side i) % 2 = omega arith in
        ap₂ (λ (b : Bool) (o : Option ℕ). cond b (g.values (g.ties.slice i) (g.ties.chain i)) (side_of g.ties o)) marked found ∙ same

    pub zeroed_filling : FillingOf g (zeroed g)
    zeroed_filling = record {
      bits = zeroed_lt;
      known = λ t c n. zeroed_known t c n.unmarked;
      ties = record { symbols = λ j. 0; bits = λ j. omega arith; held = zeroed_named };
    }

    pub explained_differs : (y : ℕ) → ExplainedBy g y → is_xor_of (columns_for g) (bit_xor (zero_signature_for g) y) ≡ true
    explained_differs y e =
        ap (λ (x : ℕ). is_xor_of (columns_for g) (bit_xor (zero_signature_for g) x)) (sym e.clocks)
        ∙ known_differ e.response (zeroed g) e.filling.bits zeroed_lt
        (λ t c n. e.filling.known t c n ∙ sym (zeroed_known t c n.unmarked)) e.filling.ties zeroed_filling.ties

    -- ---- each XOR of columns is such a difference

    -- a filling whose signature differs from that for all symbols 0 by w
    abbrev Reached : ℕ → Type 0
    Reached w = (x : Response) × FillingOf g x × (signature g.wiring x g.slices ≡ bit_xor (zero_signature_for g) w)

    -- a free cell flipped
    flip_free : (t c : ℕ) → naming g.ties t c ≡ none → (g.marks t c ≡ 0 → ⊥) → (a : ℕ) → Reached a → Reached (bit_xor a (column g.wiring g.slices t c))
    flip_free t c q m a r = (
      flipped t c r.0,
      record {
        bits = λ v d. mod2_lt (r.0 v d + only_cell t c v d);
        known = λ v d n. still v d (λ (e : v ≡ t) (f : d ≡ c). m (ap₂ g.marks (sym e) (sym f) ∙ n.unmarked)) ∙ r.1.known v d n;
        ties = record {
          symbols = r.1.ties.symbols;
          bits = r.1.ties.bits;
          held = λ i l. still (g.ties.slice i) (g.ties.chain i) (elsewhere i l) ∙ r.1.ties.held i l;
        };
      },
      flip_column g.wiring r.0 g.slices t c r.1.bits ∙ ap (λ (z : ℕ). bit_xor z (column g.wiring g.slices t c)) r.2
          ∙ xor_assoc (zero_signature_for g) a (column g.wiring g.slices t c),
    )
      where
        still : (v d : ℕ) → (v ≡ t → d ≡ c → ⊥) → flipped t c r.0 v d ≡ r.0 v d
        still v d other =
            let none : only_cell t c v d ≡ 0 = only_cell_other t c v d other in
            omega (arith, none, r.1.bits v d)

        elsewhere : (i : ℕ) → i < g.ties.count → g.ties.slice i ≡ t → g.ties.chain i ≡ c → ⊥
        elsewhere i l e f =
            true_not_false (names g.ties i t c) (names_own g.ties i t c e f) (naming_none g.ties g.ties.count t c q i l)

    -- all cells of a symbol flipped
    flip_symbol : (j a : ℕ) → Reached a → Reached (bit_xor a (symbol_column g.wiring g.slices g.ties j))
    flip_symbol j a r = (
      (λ t c. (r.0 t c + turned t c) % 2),
      record {
        bits = λ t c. mod2_lt (r.0 t c + turned t c);
        known = λ t c n. unturned t c n ∙ r.1.known t c n;
        ties = record {
          symbols = λ i. (r.1.ties.symbols i + cond (eqb i j) 1 0) % 2;
          bits = λ i. mod2_lt (r.1.ties.symbols i + cond (eqb i j) 1 0);
          held = held;
        };
      },
      with_tied g.wiring g.slices g.ties (has_symbol g.ties j) g.ties.count r.0 r.1.bits
          ∙ ap₂ bit_xor r.2 (symbol_of_columns g.wiring g.slices g.marks g.ties j)
          ∙ xor_assoc (zero_signature_for g) a (symbol_column g.wiring g.slices g.ties j),
    )
      where
        turned : Response
        turned = tied (has_symbol g.ties j) g.ties g.ties.count

        cell : (t c : ℕ) → turned t c ≡ digit_of (has_symbol g.ties j) (naming g.ties t c)
        cell =
            tied_cell g.slices (chains g.wiring) g.marks g.ties sound (has_symbol g.ties j) (λ i l. has_symbol_lt g.ties j i)

        unturned : (t c : ℕ) → KnownCell g t c → (r.0 t c + turned t c) % 2 ≡ r.0 t c
        unturned t c n = go (naming g.ties t c) refl
          where
            go : (o : Option ℕ) → naming g.ties t c ≡ o → (r.0 t c + turned t c) % 2 ≡ r.0 t c
            go none q = let zero : turned t c ≡ 0 = cell t c ∙ ap (digit_of (has_symbol g.ties j)) q in omega (arith, zero, r.1.bits t c)
            go (some i) q =
                let found = naming_some g.ties g.ties.count t c i q in
                let at = names_cell g.ties i t c found.1 in
                let marked : g.marks t c ≡ 1 = ap₂ g.marks (sym at.0) (sym at.1) ∙ sound.unknown i found.0 in
                let clash : ⊥ = omega (arith, marked, n.unmarked) in absurd clash

        sums : (x y z a p q : ℕ) → x ≡ (y + z) % 2 → p ≡ a → q ≡ (y + a) % 2 → (x + p) % 2 ≡ (q + z) % 2
        sums x y z a p q ex ep eq = omega arith

        held : (i : ℕ) → i < g.ties.count
            → (r.0 (g.ties.slice i) (g.ties.chain i) + turned (g.ties.slice i) (g.ties.chain i)) % 2
            ≡ ((r.1.ties.symbols (g.ties.symbol i) + cond (eqb (g.ties.symbol i) j) 1 0) % 2 + g.ties.side i) % 2
        held i l =
            let found = naming_own g.slices (chains g.wiring) g.marks g.ties sound i l in
            sums (r.0 (g.ties.slice i) (g.ties.chain i)) (r.1.ties.symbols (g.ties.symbol i)) (g.ties.side i) (has_symbol g.ties j i)
            (turned (g.ties.slice i) (g.ties.chain i)) ((r.1.ties.symbols (g.ties.symbol i) + cond (eqb (g.ties.symbol i) j) 1 0) % 2)
            (r.1.ties.held i l) (cell (g.ties.slice i) (g.ties.chain i) ∙ ap (digit_of (has_symbol g.ties j)) found) refl

    -- each listed column
    listed_moves : (v : ℕ) → any_of (eqb v) (columns_for g) ≡ true → (a : ℕ) → Reached a → Reached (bit_xor a v)
    unfolding first_marks column_at
    listed_moves v p a r =
        let found = listing_some (column_at g.wiring g.slices g.ties) (first_marks g.marks g.ties) (chains g.wiring) g.slices v p in
        go found.0 found.1 found.4 found.5 (naming g.ties found.0 found.1) refl
      where
        go : (t c : ℕ) → (first_marks g.marks g.ties t c ≡ 0 → ⊥) → v ≡ column_at g.wiring g.slices g.ties t c → (o : Option ℕ)
            → naming g.ties t c ≡ o → Reached (bit_xor a v)
        go t c m q none o =
            subst (λ (w : ℕ). Reached (bit_xor a w)) (sym (q ∙ ap (source_column g.wiring g.slices g.ties t c) o))
            (flip_free t c o (λ (z : g.marks t c ≡ 0). m (ap (first_mark g.ties (g.marks t c)) o ∙ z)) a r)
        go t c m q (some i) o =
            subst (λ (w : ℕ). Reached (bit_xor a w)) (sym (q ∙ ap (source_column g.wiring g.slices g.ties t c) o))
            (flip_symbol (g.ties.symbol i) a r)

    pub differs_explained : (y : ℕ) → is_xor_of (columns_for g) (bit_xor (zero_signature_for g) y) ≡ true → ExplainedBy g y
    differs_explained y p =
        let start : Reached 0 = (zeroed g, zeroed_filling, sym (xor_zero_r (zero_signature_for g))) in
        let r = xor_of_moves Reached start (columns_for g) listed_moves (bit_xor (zero_signature_for g) y) p in
        record { response = r.0; filling = r.1; clocks = r.2 ∙ xor_cancel (zero_signature_for g) y }
