-- The columns of symbols by the powers of the register: of one cell, of one symbol, and of the cells that take the opposite.
--
--   power_column     a cell's column from the powers
--   symbol_term k s e j i   what entry i adds to the column of symbol number j
--   symbol_starts    entries before the first with a number add nothing to its column; symbol_added, symbol_passed: one entry more, with the
--                    number and with another; symbol_ends: all of them
--   symbol_alone     a symbol with one entry has that cell's column
--   any_in_range     a test of the numbers below n, one after the other
--   side_term k s e i   what entry i adds to the XOR for the cells that take the opposite
--   opposites_start, opposite_added, opposite_passed, opposites_end   the loop over them; opposites_none: where there is none
-- Assumes nothing.
use mathlib.Core.Path.{◌≡◌, refl, sym, ap, ap₂, subst, ◌∙◌}
use mathlib.Core.Bool.{Bool, true, false, not, ◌||◌, cond}
use mathlib.Core.Logic.{dite}
use mathlib.Core.List.{List, [], ◌∷◌, ◌++◌}
use Prim.Native.Nat.{ℕ, zero, suc, ◌+◌, ◌-◌, ◌<◌}
use native.Mathlib.Numerals.{add-one}
use native.Mathlib.Decide.{dec_lt}
use native.Mathlib.Omega.{arith}
use borrow.Author.Tests.{eq-eqb, ne_eqb, eqb-true, not-false}
use lib.Bits.{bit_xor, xor_zero_r}
use lib.Dec.{eqb}
use lib.ListN.{length, get_or, take, drop, length-drop}
use lib.Seq.{length-take-le, get_or-take, get_or-drop}
use Rattle.std.specs.List.{list_any, range_with_len}
use Rattle.std.proofs.lemmas.List.{map-id}
use Rattle.std.proofs.lemmas.List.Folds.{list_any-append}
use Rattle.std.proofs.lemmas.List.FromFn.{map-range_with_len_more}
use Rattle.word.specs.Some.{any_below}
use Rattle.word.specs.Span.{xor_below}
use Rattle.word.proofs.SomeLaws.{any_below_false}
use Rattle.word.proofs.XorLaws.{xor_below_none, xor_below_suc, xor_below_zero, xor_below_one}
use Rattle.ties.specs.Ties.{Ties}
use Rattle.ties.specs.Symbols.{opens}
use Rattle.chains.specs.Driven.{chosen}
use Rattle.chains.proofs.Laws.{good_spread}
use Rattle.register.specs.Circuit.{Circuit}
use Rattle.signatures.specs.Signature.{column}
use Rattle.signatures.specs.Later.{later}
use Rattle.signatures.specs.Symbols.{symbol_column, side_columns}
use Rattle.signatures.proofs.ColumnLaws.{column_closed}
use Rattle.powers.specs.Powers.{from_powers}
use Rattle.powers.proofs.PowerLaws.{from_powers_lem, powers_part}
use Rattle.symbol_columns.specs.Powered.{Powered, NumbersIn}

-- ---- one cell

module _ (k : Circuit) (s : ℕ) (ps ws : List ℕ) (m : ℕ) (p : Powered k s ps ws m) where
  pub power_column : (t c to w r : ℕ) (x : List ℕ) → t < s → c < length ws → to ≡ s - 1 - t + m → x ≡ take (to - (s - 1 - t)) (drop (s - 1 - t) ps)
      → w ≡ get_or ws c 0 → r ≡ from_powers x w → r ≡ column k s t c
  power_column t c to w r x ht hc et ex ew er =
      er ∙ ap (λ (y : List ℕ). from_powers y w) part
      ∙ ap (from_powers (take k.width (drop (s - 1 - t) ps))) word
      ∙ from_powers_lem k (take k.width (drop (s - 1 - t) ps)) (s - 1 - t) (get_or k.spread c 0) powered.1 powered.0
      (good_spread k.width k.spread p.good c)
      ∙ sym (column_closed k s t c ht chain)
    where
      part : x ≡ take k.width (drop (s - 1 - t) ps)
      part = ex ∙ ap (λ (y : ℕ). take y (drop (s - 1 - t) ps)) (omega (arith, p.width))

      word : w ≡ get_or k.spread c 0
      word = ew ∙ ap (λ (x : List ℕ). get_or x c 0) p.spread

      chain : c < length k.spread
      chain = subst (λ (x : List ℕ). c < length x) p.spread hc

      powered : (length (take k.width (drop (s - 1 - t) ps)) ≡ k.width)
          × ((i : ℕ) → i < k.width → get_or (take k.width (drop (s - 1 - t) ps)) i 0 ≡ later k (i + (s - 1 - t)) 1)
      powered = powers_part k ps (s - 1 - t) p.long (λ i l. p.powers i (omega (arith, p.narrow, p.slices))) (omega (arith, p.narrow, p.slices))

-- ---- an XOR of one term more

xor_grows : (f : ℕ → ℕ) (i sum w : ℕ) → sum ≡ xor_below i f → w ≡ f i → bit_xor sum w ≡ xor_below (i + 1) f
xor_grows f i sum w es ew = ap₂ bit_xor es ew ∙ sym (xor_below_suc i f) ∙ ap (λ (x : ℕ). xor_below x f) (sym (add-one i))

xor_stays : (f : ℕ → ℕ) (i sum : ℕ) → sum ≡ xor_below i f → f i ≡ 0 → sum ≡ xor_below (i + 1) f
xor_stays f i sum es none = sym (xor_zero_r sum) ∙ xor_grows f i sum 0 es (sym none)

-- ---- one symbol

abbrev pub symbol_term : Circuit → ℕ → Ties → ℕ → ℕ → ℕ
symbol_term k s e j i = cond (eqb (e.symbol i) j) (column k s (e.slice i) (e.chain i)) 0

not_on : (b : Bool) → not b ≡ true → b ≡ false
not_on true q = sym q
not_on false q = refl

-- no entry before the first one has its number
opened : (e : Ties) (i : ℕ) → opens e i ≡ true → (h : ℕ) → h < i → eqb (e.symbol h) (e.symbol i) ≡ false
unfolding opens
opened e i o =
    any_below_false i (λ h. eqb (e.symbol h) (e.symbol i)) (not_on (any_below i (λ h. eqb (e.symbol h) (e.symbol i))) o)

module _ (k : Circuit) (s : ℕ) (e : Ties) where
  none_before : (i : ℕ) → opens e i ≡ true → (h : ℕ) → h < i → symbol_term k s e (e.symbol i) h ≡ 0
  none_before i o h l = ap (λ (b : Bool). cond {A = ℕ} b (column k s (e.slice h) (e.chain h)) 0) (opened e i o h l)

  pub symbol_starts : (i : ℕ) → opens e i ≡ true → 0 ≡ xor_below i (symbol_term k s e (e.symbol i))
  symbol_starts i o = sym (xor_below_zero i (symbol_term k s e (e.symbol i)) (none_before i o))

  module _ (ns : List ℕ) (n : NumbersIn ns e) (i h j sum : ℕ) (lh : h < e.count) (ej : j ≡ e.symbol i)
      (es : sum ≡ xor_below h (symbol_term k s e (e.symbol i))) where
    pub symbol_added : (w : ℕ) → get_or ns h 0 ≡ j → w ≡ column k s (e.slice h) (e.chain h) → bit_xor sum w ≡ xor_below (h + 1) (symbol_term k s e (e.symbol i))
    symbol_added w same ew =
        xor_grows (symbol_term k s e (e.symbol i)) h sum w es
        (ew ∙ ap (λ (b : Bool). cond {A = ℕ} b (column k s (e.slice h) (e.chain h)) 0) (sym (eq-eqb (e.symbol h) (e.symbol i) (sym (n.numbers h lh) ∙ same ∙ ej))))

    pub symbol_passed : (get_or ns h 0 ≡ j → ⊥) → sum ≡ xor_below (h + 1) (symbol_term k s e (e.symbol i))
    symbol_passed other =
        xor_stays (symbol_term k s e (e.symbol i)) h sum es
        (ap (λ (b : Bool). cond {A = ℕ} b (column k s (e.slice h) (e.chain h)) 0)
        (ne_eqb (e.symbol h) (e.symbol i) (λ (same : e.symbol h ≡ e.symbol i). other (n.numbers h lh ∙ same ∙ sym ej))))

  pub symbol_ends : (i h sum : ℕ) → sum ≡ xor_below h (symbol_term k s e (e.symbol i)) → h ≡ e.count → sum ≡ symbol_column k s e (e.symbol i)
  unfolding symbol_column
  symbol_ends i h sum es eh = es ∙ ap (λ (x : ℕ). xor_below x (symbol_term k s e (e.symbol i))) eh

  -- no entry behind it has its number either
  module _ (ns : List ℕ) (n : NumbersIn ns e) where
    pub symbol_alone : (i r : ℕ) (b : Bool) → i < e.count → opens e i ≡ true
        → b ≡ any_below (length (take (length ns - (i + 1)) (drop (i + 1) ns))) (λ h. eqb (get_or (take (length ns - (i + 1)) (drop (i + 1) ns)) h 0) (get_or ns i 0))
        → b ≡ false → r ≡ column k s (e.slice i) (e.chain i) → r ≡ symbol_column k s e (e.symbol i)
    unfolding symbol_column
    symbol_alone i r b li o eb off er =
        er ∙ ap (λ (x : Bool). cond {A = ℕ} x (column k s (e.slice i) (e.chain i)) 0) (sym (eq-eqb (e.symbol i) (e.symbol i) refl))
        ∙ sym (xor_below_one e.count (symbol_term k s e (e.symbol i)) i li others)
      where
        rest : List ℕ
        rest = take (length ns - (i + 1)) (drop (i + 1) ns)

        long : length rest ≡ length ns - (i + 1)
        long = length-take-le (length ns - (i + 1)) (drop (i + 1) ns) (omega (arith, length-drop (i + 1) ns))

        behind : (h : ℕ) → h < e.count → i < h → eqb (e.symbol h) (e.symbol i) ≡ false
        behind h lh q =
            let on : i + 1 + (h - (i + 1)) ≡ h = omega arith in
            let there : h - (i + 1) < length ns - (i + 1) = omega (arith, n.long) in
            sym (ap₂ eqb
            (get_or-take (length ns - (i + 1)) (drop (i + 1) ns) (h - (i + 1)) 0 there ∙ get_or-drop (i + 1) ns (h - (i + 1)) 0 ∙ ap (λ (x : ℕ). get_or ns x 0) on ∙ n.numbers h lh)
            (n.numbers i li))
            ∙ any_below_false (length rest) (λ h. eqb (get_or rest h 0) (get_or ns i 0)) (sym eb ∙ off) (h - (i + 1)) (omega (arith, long))

        others : (h : ℕ) → h < e.count → (h ≡ i → ⊥) → symbol_term k s e (e.symbol i) h ≡ 0
        others h lh ne =
            dite (dec_lt h i) (none_before i o h)
            (λ (q : h < i → ⊥). ap (λ (b : Bool). cond {A = ℕ} b (column k s (e.slice h) (e.chain h)) 0) (behind h lh (omega arith)))

-- ---- the cells that take the opposite

chosen_one : (d w : ℕ) → (d ≡ 0 → ⊥) → chosen d w ≡ w
chosen_one zero w ne = absurd (ne refl)
chosen_one (suc d) w ne = refl

or_false : (b : Bool) → (b || false) ≡ b
or_false true = refl
or_false false = refl

pub any_in_range : (f : ℕ → Bool) (n : ℕ) → list_any f (range_with_len 0 n) ≡ any_below n f
unfolding any_below
any_in_range f zero = refl
any_in_range f (suc n) =
    ap (list_any f) one_more ∙ list_any-append f (range_with_len 0 n) (n ∷ []) ∙ ap₂ ◌||◌ (any_in_range f n) (or_false (f n))
  where
    one_more : range_with_len 0 (suc n) ≡ range_with_len 0 n ++ n ∷ []
    one_more =
        ap (range_with_len 0) (sym (add-one n)) ∙ sym (map-id (range_with_len 0 (n + 1))) ∙ map-range_with_len_more (λ (x : ℕ). x) 0 n n (omega arith)
        ∙ ap (λ (l : List ℕ). l ++ n ∷ []) (map-id (range_with_len 0 n))

module _ (k : Circuit) (s : ℕ) (e : Ties) where
  abbrev pub side_term : ℕ → ℕ
  side_term i = chosen (e.side i) (column k s (e.slice i) (e.chain i))

  pub opposites_start : 0 ≡ xor_below 0 side_term
  opposites_start = sym (xor_below_none side_term)

  pub opposite_added : (i d sum w : ℕ) → d ≡ e.side i → (d ≡ 0 → ⊥) → sum ≡ xor_below i side_term → w ≡ column k s (e.slice i) (e.chain i)
      → bit_xor sum w ≡ xor_below (i + 1) side_term
  opposite_added i d sum w ed ne es ew =
      xor_grows side_term i sum w es (ew ∙ sym (chosen_one d (column k s (e.slice i) (e.chain i)) ne) ∙ ap (λ (x : ℕ). chosen x (column k s (e.slice i) (e.chain i))) ed)

  pub opposite_passed : (i d sum : ℕ) → d ≡ e.side i → d ≡ 0 → sum ≡ xor_below i side_term → sum ≡ xor_below (i + 1) side_term
  opposite_passed i d sum ed z es =
      xor_stays side_term i sum es (ap (λ (x : ℕ). chosen x (column k s (e.slice i) (e.chain i))) (sym ed ∙ z))

  pub opposites_end : (i sum : ℕ) → sum ≡ xor_below i side_term → i ≡ e.count → sum ≡ side_columns k s e
  unfolding side_columns
  opposites_end i sum es ei = es ∙ ap (λ (x : ℕ). xor_below x side_term) ei

  -- where no cell does
  pub opposites_none : (b : Bool) → b ≡ any_below e.count (λ i. not (eqb (e.side i) 0)) → b ≡ false → 0 ≡ side_columns k s e
  unfolding side_columns
  opposites_none b eb off =
      sym
      (xor_below_zero e.count side_term
      (λ i l.
      ap (λ (d : ℕ). chosen d (column k s (e.slice i) (e.chain i)))
      (eqb-true (e.side i) 0 (not-false (eqb (e.side i) 0) (any_below_false e.count (λ i. not (eqb (e.side i) 0)) (sym eb ∙ off) i l)))))
