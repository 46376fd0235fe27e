-- The columns of the symbols of a taken set with entries of ties, from a copy of its rows of marks in which the first cell of each named symbol
-- is the only one of its cells.
--
--   filled_columns       the columns of the marked cells fill a list that is as long
--   flags_in             the flags made are the entries'
--   heads_in             such rows mark the first cells of the symbols
--   heads_short          the marks counted are the symbols, and the list is shorter
--   heads_listed         the columns listed for them are the set's
-- Assumes nothing.
use mathlib.Core.Path.{◌≡◌, refl, sym, ap, ap₂, subst, ◌∙◌}
use mathlib.Core.List.{List, ◌++◌}
use mathlib.Core.Option.{Option, none, some}
use Prim.Native.Nat.{ℕ, suc, ◌+◌, ◌-◌, ◌*◌, ◌≤◌, ◌<◌, min}
use native.Mathlib.Nat.{mul-zero}
use native.Mathlib.Omega.{arith}
use lib.ListN.{length, take, drop, get_or}
use lib.Seq.{length-take-le}
use Rattle.word.specs.Reply.{answer, refusal}
use Rattle.rows.specs.Row.{Cells, cell, row_bytes}
use Rattle.rows.specs.Lists.{list_row, cells_of}
use Rattle.rows.specs.Marks.{total}
use Rattle.rows.specs.declared.Rows.{Rows}
use Rattle.rows.proofs.MarkLaws.{total_suc, total_ext, total_le, total_add, row_total}
use Rattle.ties.specs.Ties.{Ties, ties_in}
use Rattle.free_marks.proofs.AloneLaws.{Alone, alone_row}
use Rattle.ties.specs.Symbols.{naming, flag, first_mark, first_marks, unmarked, SoundTies}
use Rattle.ties.proofs.SymbolLaws.{names_cell, naming_some, naming_own, unmarked_first}
use Rattle.register.specs.Circuit.{Circuit, chains}
use Rattle.marked_words.specs.Back.{back}
use Rattle.marked_words.proofs.BackLaws.{back_whole}
use Rattle.set_layout.specs.Layout.{circuit_of, chains_of, slices_of, mark_at, mark_row, marks, tie_count_of, tie_bytes, ties_of}
use Rattle.set_layout.proofs.LayoutLaws.{spread_length}
use Rattle.set_file.specs.Reading.{taken_circuit, TakenFrom}
use Rattle.set_file.specs.declared.Taken.{Taken}
use Rattle.set_file.proofs.Laws.{Accepted, accepted_chains, mark_row_length, mark_row_clean}
use Rattle.signatures.specs.Signature.{Response, column}
use Rattle.signatures.specs.Columns.{columns_below}
use Rattle.signatures.specs.Symbols.{column_at, listing}
use Rattle.signatures.specs.Sets.{columns_of, symbols_of}
use Rattle.signatures.proofs.ListingLaws.{listing_ext, same_listed, listing_columns, length_listing, total_grows}
use Rattle.signatures.proofs.SetLaws.{set_ties, set_ties_within}
use Rattle.signatures.proofs.TakenLaws.{whole, own_slices, own_marks}
use Rattle.symbol_columns.specs.Powered.{FlagsIn}
use Rattle.listed_symbols.specs.Heads.{HeadsIn}
use Rattle.listed_symbols.proofs.BeforeLaws.{cells_lt}
use Rattle.columns.proofs.CallLaws.{Lists, list_short, list_answers}

-- ---- the list filled

pub filled_columns : (k : Circuit) (s : ℕ) (u : Response) (l l' : List ℕ) → length (columns_below k s u s) ≡ length l → l' ≡ back (columns_below k s u s) l
    → l' ≡ listing (column k s) u (chains k) s
filled_columns k s u l l' long e = e ∙ back_whole (columns_below k s u s) l long ∙ listing_columns k s u s

-- ---- sums

-- a sum whose last terms are 0
total_bare : (a b : ℕ) (f : ℕ → ℕ) → a ≤ b → ((c : ℕ) → a ≤ c → c < b → f c ≡ 0) → total b f ≡ total a f
total_bare a b f h bare =
    let parts : a + (b - a) ≡ b = omega arith in
    let rest : total (b - a) (λ i. f (a + i)) ≡ total (b - a) (λ i. 0) =
    total_ext (b - a) (λ i. f (a + i)) (λ i. 0) (λ i l. bare (a + i) (omega arith) (omega (arith, l)))
    in
    omega (arith, ap (λ (x : ℕ). total x f) parts, total_add a (b - a) f, rest, total_le (b - a) 0 (λ i. 0) (λ i. omega arith), mul-zero (b - a))

-- ---- the first cells of a set's symbols

module _ (set : List ℕ) (a : Accepted set) where
  sound : SoundTies (slices_of set) (chains (circuit_of set)) (marks set) (ties_of set)
  sound = set_ties set a

  chains_few : chains (circuit_of set) ≤ 256
  chains_few = omega (arith, spread_length set, (accepted_chains set a).1)

  abbrev firsts : ℕ → Cells
  firsts = first_marks (marks set) (ties_of set)

  marks_bare : (t c : ℕ) → t < slices_of set → chains (circuit_of set) ≤ c → c < 256 → marks set t c ≡ 0
  marks_bare t c lt h l =
      let all : total 256 (marks set t) ≡ total (chains_of set) (marks set t) =
      row_total (chains_of set) (mark_row set t) (mark_row_length set a t lt) (mark_row_clean set a t lt) (accepted_chains set a).1
      in
      omega (
        arith,
        all,
        total_grows (chains_of set) c (marks set t) (omega (arith, h, spread_length set)),
        total_suc c (marks set t),
        total_grows (suc c) 256 (marks set t) l,
      )

  firsts_bare : (t c : ℕ) → t < slices_of set → chains (circuit_of set) ≤ c → c < 256 → firsts t c ≡ 0
  unfolding first_marks
  firsts_bare t c lt h l = go (naming (ties_of set) t c) refl
    where
      go : (o : Option ℕ) → naming (ties_of set) t c ≡ o → first_mark (ties_of set) (marks set t c) o ≡ 0
      go none q = marks_bare t c lt h l
      go (some i) q =
          let found = naming_some (ties_of set) (tie_count_of set) t c i q in
          let at = names_cell (ties_of set) i t c found.1 in
          let clash : ⊥ = omega (arith, at.1, sound.chains i found.0, h) in absurd clash

  -- rows that mark them
  module _ (u : ℕ → Cells) (same : (t c : ℕ) → t < slices_of set → u t c ≡ firsts t c) where
    first_ends : (t : ℕ) → t < slices_of set → total 256 (u t) ≡ total (chains (circuit_of set)) (u t)
    first_ends t lt = total_bare (chains (circuit_of set)) 256 (u t) chains_few (λ c h l. same t c lt ∙ firsts_bare t c lt h l)

    first_heads : (i : ℕ) → i < tie_count_of set → u ((ties_of set).slice i) ((ties_of set).chain i) ≡ flag (ties_of set) i
    unfolding first_marks
    first_heads i h =
        same ((ties_of set).slice i) ((ties_of set).chain i) (sound.slices i h)
        ∙ ap (first_mark (ties_of set) (marks set ((ties_of set).slice i) ((ties_of set).chain i)))
        (naming_own (slices_of set) (chains (circuit_of set)) (marks set) (ties_of set) sound i h)

    firsts_in : HeadsIn (circuit_of set) (slices_of set) u (ties_of set)
    firsts_in = record { good = a.spread; within = set_ties_within set a; heads = first_heads; ends = first_ends }

    first_symbols : total (slices_of set) (λ t. total 256 (u t)) ≡ symbols_of set
    unfolding symbols_of
    first_symbols =
        total_ext (slices_of set) (λ t. total 256 (u t)) (λ t. total (chains (circuit_of set)) (firsts t))
        (λ t lt. first_ends t lt ∙ total_ext (chains (circuit_of set)) (u t) (firsts t) (λ c lc. same t c lt))

    first_columns : listing (column_at (circuit_of set) (slices_of set) (ties_of set)) u (chains (circuit_of set)) (slices_of set) ≡ columns_of set
    unfolding columns_of
    first_columns =
        listing_ext (column_at (circuit_of set) (slices_of set) (ties_of set)) (column_at (circuit_of set) (slices_of set) (ties_of set)) u firsts (chains (circuit_of set))
        (slices_of set) (λ t c lt lc. same_listed _ _ _ _ (same t c lt) refl)

-- ---- a taken set, and the copy `heads` of its rows

module _ (set : List ℕ) (k : Taken) (taken : TakenFrom set k) (r : Rows)
    (e : (r.at ≡ mark_at k.n 0) × (r.stride ≡ 2 * row_bytes k.n) × (r.bytes ≡ row_bytes k.n)) (ties flags heads : List ℕ) (count : ℕ) (r' : Rows)
    (ec : count ≡ tie_count_of set) (et : ties ≡ tie_bytes set)
    (right : count ≤ 256 → (i : ℕ) → i < count → get_or flags i 0 ≡ flag (ties_in ties count) i)
    (made : k.n ≤ 256 → k.s ≤ 512 → r.bytes ≡ row_bytes k.n
    → (t c : ℕ) → t < k.s → cell (list_row k.n heads t) c ≡ unmarked (cells_of set r) (ties_in ties count) flags t c)
    (e' : Alone r' k.n) where
  own : Accepted set
  own = whole set k taken

  same_ties : ties_in ties count ≡ ties_of set
  same_ties = ap₂ ties_in et ec

  pub flags_in : FlagsIn flags (ties_in ties count)
  flags_in = right (omega (arith, ec, own.few))

  own_flags : FlagsIn flags (ties_of set)
  own_flags = subst (FlagsIn flags) same_ties flags_in

  cells_first : (t c : ℕ) → t < slices_of set → cells_of heads r' t c ≡ first_marks (marks set) (ties_of set) t c
  cells_first t c lt =
      ap (λ (row : List ℕ). cell row c) (alone_row heads r' k.n t e')
      ∙ made (omega (arith, taken.chains, (accepted_chains set own).1)) (omega (arith, taken.slices, own.slices)) e.2 t c (omega (arith, taken.slices))
      ∙ ap (λ (x : Ties). unmarked (cells_of set r) x flags t c) same_ties
      ∙ ap (λ (d : ℕ). unmarked (λ v b. d) (ties_of set) flags t c) (own_marks set k taken r e t c)
      ∙ unmarked_first (slices_of set) (chains (circuit_of set)) (marks set) (ties_of set) (sound set own) flags own_flags t c

  pub heads_in : HeadsIn (taken_circuit k) (min k.s 512) (cells_of heads r') (ties_in ties count)
  heads_in =
      subst (λ (x : Circuit). HeadsIn x (min k.s 512) (cells_of heads r') (ties_in ties count)) (sym taken.circuit)
      (subst (λ (y : ℕ). HeadsIn (circuit_of set) y (cells_of heads r') (ties_in ties count)) (sym (own_slices set k taken))
      (subst (λ (z : Ties). HeadsIn (circuit_of set) (slices_of set) (cells_of heads r') z) (sym same_ties) (firsts_in set own (cells_of heads r') cells_first)))

  module _ (symbols : ℕ) (es : symbols ≡ total k.s (λ t. total 256 (cells_of heads r' t))) where
    head_symbols : symbols ≡ symbols_of set
    head_symbols =
        es ∙ ap (λ (s : ℕ). total s (λ t. total 256 (cells_of heads r' t))) taken.slices ∙ first_symbols set own (cells_of heads r') cells_first

    -- as many columns as places
    head_room : (l : List ℕ) → symbols ≤ length l
        → length (columns_below (taken_circuit k) (min k.s 512) (cells_of heads r') (min k.s 512)) ≡ length (take symbols l)
    head_room l h =
        ap length (listing_columns (taken_circuit k) (min k.s 512) (cells_of heads r') (min k.s 512))
        ∙ length_listing (column (taken_circuit k) (min k.s 512)) (cells_of heads r') (chains (taken_circuit k)) (cells_lt heads r') (min k.s 512)
        ∙ sym (total_ext (min k.s 512) (λ t. total 256 (cells_of heads r' t)) (λ t. total (chains (taken_circuit k)) (cells_of heads r' t)) heads_in.ends)
        ∙ ap (λ (s : ℕ). total s (λ t. total 256 (cells_of heads r' t))) (own_slices set k taken ∙ sym taken.slices) ∙ sym es
        ∙ sym (length-take-le symbols l h)

    head_columns : (l part : List ℕ) → symbols ≤ length l
        → (HeadsIn (taken_circuit k) (min k.s 512) (cells_of heads r') (ties_in ties count) → FlagsIn flags (ties_in ties count)
        → length (columns_below (taken_circuit k) (min k.s 512) (cells_of heads r') (min k.s 512)) ≡ length (take symbols l)
        → part ≡ listing (column_at (taken_circuit k) (min k.s 512) (ties_in ties count)) (cells_of heads r') (chains (taken_circuit k)) (min k.s 512))
        → part ≡ columns_of set
    head_columns l part h written =
        written heads_in flags_in (head_room l h)
        ∙ ap₂ (λ (x : Circuit) (y : ℕ). listing (column_at x y (ties_in ties count)) (cells_of heads r') (chains x) y) taken.circuit (own_slices set k taken)
        ∙ ap (λ (z : Ties). listing (column_at (circuit_of set) (slices_of set) z) (cells_of heads r') (chains (circuit_of set)) (slices_of set)) same_ties
        ∙ first_columns set own (cells_of heads r') cells_first

    -- the ways out
    pub heads_short : (l : List ℕ) → length l < symbols → Lists set l (refusal 14) l
    heads_short l h = list_short set l taken.none symbols head_symbols h

    pub heads_listed : (l part : List ℕ) → symbols ≤ length l
        → (HeadsIn (taken_circuit k) (min k.s 512) (cells_of heads r') (ties_in ties count) → FlagsIn flags (ties_in ties count)
        → length (columns_below (taken_circuit k) (min k.s 512) (cells_of heads r') (min k.s 512)) ≡ length (take symbols l)
        → part ≡ listing (column_at (taken_circuit k) (min k.s 512) (ties_in ties count)) (cells_of heads r') (chains (taken_circuit k)) (min k.s 512))
        → Lists set l (answer symbols) (part ++ drop symbols l)
    heads_listed l part h written = list_answers set l taken.none symbols head_symbols part h (head_columns l part h written)
