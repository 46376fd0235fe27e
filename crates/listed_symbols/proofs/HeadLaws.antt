-- A list of columns in which those of named symbols are set one by one.
--
--   columns_up_to k s e u i   the columns of the cells that u marks, with those of the symbols whose first cells the first i entries of e name
--   set_starts              .. of no entry: the cells' own
--   set_turns               .. of one more; set_later: whose flag is 0
--   set_ends                .. of all
--   opens_entry             an entry whose flag isn't 0 is its symbol's first
--   set_none, set_past, set_one   what is set, by the flag and the room
-- Assumes nothing.
use mathlib.Core.Path.{◌≡◌, refl, sym, ap, ap₂, ◌∙◌}
use mathlib.Core.Bool.{Bool, true, false, cond}
use mathlib.Core.List.{List}
use mathlib.Core.Option.{some}
use Prim.Native.Nat.{ℕ, suc, ◌+◌, ◌≤◌, ◌<◌}
use native.Mathlib.Numerals.{add-one}
use native.Mathlib.Omega.{arith}
use lib.ListN.{length, set}
use lib.Seq.{sets, set_out}
use Rattle.word.proofs.BoolLaws.{not_true}
use Rattle.rows.specs.Row.{Cells}
use Rattle.rows.specs.Marks.{listed, total}
use Rattle.rows.proofs.MarkLaws.{total_ext}
use Rattle.ties.specs.Ties.{Ties}
use Rattle.ties.specs.Symbols.{names, naming_below, opens, flag}
use Rattle.ties.proofs.SymbolLaws.{names_cell, names_own}
use Rattle.register.specs.Circuit.{Circuit, chains}
use Rattle.signatures.specs.Signature.{column}
use Rattle.signatures.specs.Symbols.{symbol_column, source_column, column_at, listing}
use Rattle.signatures.proofs.ListingLaws.{listing_ext, listing_set, place_of}
use Rattle.listed_symbols.specs.Heads.{HeadsIn}

-- ---- one word, where its flag is set

pub set_none : (l : List ℕ) (place d d' w : ℕ) → d ≡ d' → d ≡ 0 → l ≡ sets l place (listed d' w)
set_none l place d d' w e z = ap (λ (x : ℕ). sets l place (listed x w)) (sym z ∙ e)

flagged : (b : Bool) (d : ℕ) → d ≡ cond b 1 0 → (d ≡ 0 → ⊥) → b ≡ true
flagged true d e ne = refl
flagged false d e ne = absurd (ne e)

module _ (e : Ties) (i d : ℕ) (ed : d ≡ flag e i) (ne : d ≡ 0 → ⊥) where
  pub opens_entry : opens e i ≡ true
  opens_entry = flagged (opens e i) d ed ne

  one : flag e i ≡ 1
  one = ap (λ (b : Bool). cond {A = ℕ} b 1 0) opens_entry

  pub set_past : (l : List ℕ) (place place' w : ℕ) → place ≡ place' → length l ≤ place → l ≡ sets l place' (listed (flag e i) w)
  set_past l place place' w ep past =
      sym (ap (λ (x : ℕ). sets l place' (listed x w)) one ∙ set_out l place' w (omega arith))

  pub set_one : (l : List ℕ) (place place' r w : ℕ) → place ≡ place' → (opens e i ≡ true → r ≡ w) → set l place r ≡ sets l place' (listed (flag e i) w)
  set_one l place place' r w ep made =
      ap₂ (set l) ep (made opens_entry) ∙ sym (ap (λ (x : ℕ). sets l place' (listed x w)) one)

not_open : (b : Bool) → cond {A = ℕ} b 1 0 ≡ 0 → b ≡ false
not_open true z = let e : ⊥ = omega arith in absurd e
not_open false z = refl

-- ---- the symbols one by one

module _ (k : Circuit) (s : ℕ) (e : Ties) (u : ℕ → Cells) where
  -- the word of a cell, by the first i entries
  word_up_to : ℕ → ℕ → ℕ → ℕ
  word_up_to i t c = source_column k s e t c (naming_below e i t c)

  pub columns_up_to : ℕ → List ℕ
  columns_up_to i = listing (word_up_to i) u (chains k) s

  pub set_starts : columns_up_to 0 ≡ listing (column k s) u (chains k) s
  unfolding columns_up_to word_up_to naming_below
  set_starts = listing_ext (word_up_to 0) (column k s) u u (chains k) s (λ t c lt lc. refl)

  pub set_ends : (i : ℕ) (l : List ℕ) → i ≡ e.count → l ≡ columns_up_to i → l ≡ listing (column_at k s e) u (chains k) s
  unfolding columns_up_to word_up_to column_at
  set_ends i l ei el =
      el ∙ ap (λ (x : ℕ). listing (word_up_to x) u (chains k) s) ei
      ∙ listing_ext (word_up_to e.count) (column_at k s e) u u (chains k) s (λ t c lt lc. refl)

  -- the word of a cell that the next entry doesn't name, and of the one that it names
  still : (i t c : ℕ) → names e i t c ≡ false → word_up_to i t c ≡ word_up_to (suc i) t c
  unfolding word_up_to naming_below
  still i t c p = ap (λ (b : Bool). source_column k s e t c (cond b (some i) (naming_below e i t c))) (sym p)

  own : (i t c : ℕ) → names e i t c ≡ true → word_up_to (suc i) t c ≡ symbol_column k s e (e.symbol i)
  unfolding word_up_to naming_below
  own i t c p = ap (λ (b : Bool). source_column k s e t c (cond b (some i) (naming_below e i t c))) p

  module _ (digits : (t c : ℕ) → u t c < 2) (heads : HeadsIn k s u e) (i : ℕ) (h : i < e.count) where
    -- an entry that isn't its symbol's first names a cell that isn't listed
    passed : opens e i ≡ false → columns_up_to i ≡ columns_up_to (suc i)
    unfolding columns_up_to
    passed p = listing_ext (word_up_to i) (word_up_to (suc i)) u u (chains k) s (λ t c lt lc. go t c (names e i t c) refl)
      where
        go : (t c : ℕ) (b : Bool) → names e i t c ≡ b → listed (u t c) (word_up_to i t c) ≡ listed (u t c) (word_up_to (suc i) t c)
        go t c false q = ap (listed (u t c)) (still i t c q)
        go t c true q =
            let at = names_cell e i t c q in
            let bare : u t c ≡ 0 = ap₂ u (sym at.0) (sym at.1) ∙ heads.heads i h ∙ ap (λ (b : Bool). cond {A = ℕ} b 1 0) p in
            ap (λ (d : ℕ). listed d (word_up_to i t c)) bare ∙ ap (λ (d : ℕ). listed d (word_up_to (suc i) t c)) (sym bare)

    set_first : opens e i ≡ true
        → columns_up_to (suc i) ≡ set (columns_up_to i) (place_of u (chains k) (e.slice i) (e.chain i)) (symbol_column k s e (e.symbol i))
    unfolding columns_up_to
    set_first p =
        listing_set u (chains k) digits (word_up_to i) (word_up_to (suc i)) (e.slice i) (e.chain i)
        (heads.heads i h ∙ ap (λ (b : Bool). cond {A = ℕ} b 1 0) p)
        (λ t c other. still i t c (not_true (names e i t c) (λ (q : names e i t c ≡ true). let at = names_cell e i t c q in other (sym at.0) (sym at.1))))
        s (heads.within.slices i h) (heads.within.chains i h)
        ∙ ap (set (listing (word_up_to i) u (chains k) s) (place_of u (chains k) (e.slice i) (e.chain i)))
        (own i (e.slice i) (e.chain i) (names_own e i (e.slice i) (e.chain i) refl refl))

    -- the marked cells of the slices before, by rows of 256 cells
    rows_before : (before t : ℕ) → t ≡ e.slice i → before ≡ total t (λ v. total 256 (u v)) → before ≡ total (e.slice i) (λ v. total (chains k) (u v))
    rows_before before t et eb =
        eb ∙ ap (λ (x : ℕ). total x (λ v. total 256 (u v))) et
        ∙ total_ext (e.slice i) (λ v. total 256 (u v)) (λ v. total (chains k) (u v)) (λ v q. heads.ends v (omega (arith, q, heads.within.slices i h)))

    pub set_later : (d : ℕ) (l : List ℕ) → d ≡ flag e i → l ≡ columns_up_to i → d ≡ 0 → l ≡ columns_up_to (i + 1)
    set_later d l ed el z = el ∙ passed (not_open (opens e i) (sym ed ∙ z)) ∙ ap columns_up_to (sym (add-one i))

    pub set_turns : (before t : ℕ) (x : Cells) (l l' : List ℕ) → t ≡ e.slice i → before ≡ total t (λ v. total 256 (u v)) → l ≡ columns_up_to i
        → x ≡ u t → l' ≡ sets l (before + total (e.chain i) x) (listed (flag e i) (symbol_column k s e (e.symbol i)))
        → l' ≡ columns_up_to (i + 1)
    set_turns before t x l l' et eb el ex el' = el' ∙ go (opens e i) refl ∙ ap columns_up_to (sym (add-one i))
      where
        place : before + total (e.chain i) x ≡ place_of u (chains k) (e.slice i) (e.chain i)
        place = ap₂ (λ (a : ℕ) (y : Cells). a + total (e.chain i) y) (rows_before before t et eb) (ex ∙ ap u et)

        go : (b : Bool) → opens e i ≡ b
            → sets l (before + total (e.chain i) x) (listed (flag e i) (symbol_column k s e (e.symbol i))) ≡ columns_up_to (suc i)
        go false p =
            ap (λ (b : Bool). sets l (before + total (e.chain i) x) (listed (cond {A = ℕ} b 1 0) (symbol_column k s e (e.symbol i)))) p
            ∙ el ∙ passed p
        go true p =
            ap (λ (b : Bool). sets l (before + total (e.chain i) x) (listed (cond {A = ℕ} b 1 0) (symbol_column k s e (e.symbol i)))) p
            ∙ ap₂ (λ (r : List ℕ) (y : ℕ). set r y (symbol_column k s e (e.symbol i))) el place ∙ sym (set_first p)
