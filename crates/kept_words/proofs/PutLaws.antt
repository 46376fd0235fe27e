-- The columns of the named symbols behind the first 64 working places. Assumes nothing.
use mathlib.Core.Path.{◌≡◌, refl, sym, ap, ap₂, ◌∙◌}
use mathlib.Core.Bool.{Bool, true, false, cond}
use mathlib.Core.List.{List, [], ◌++◌, append_assoc}
use Prim.Native.Nat.{ℕ, ◌+◌, ◌-◌, ◌≤◌, ◌<◌, min}
use native.Mathlib.Nat.{mul-one}
use native.Mathlib.Omega.{arith}
use borrow.Author.Tests.{lt-ltb, le-ltb}
use lib.Dec.{eqb, ltb}
use lib.ListN.{length, take, drop, get_or, length-take, length-drop, length-append, take-append-drop}
use lib.Seq.{drop-drop, take_at, drop_at, length-take-le}
use Rattle.word.specs.Reply.{front}
use Rattle.word.proofs.FrontLaws.{front_all}
use Rattle.numbers.specs.Joined.{joined}
use Rattle.rows.specs.Marks.{listed, total}
use Rattle.rows.proofs.MarkLaws.{total_le}
use Rattle.ties.specs.Ties.{ties_in}
use Rattle.ties.specs.Symbols.{flag, named_symbols, Within}
use Rattle.chains.specs.Driven.{bad_spread}
use Rattle.register.specs.Circuit.{Circuit, chains}
use Rattle.set_layout.specs.Layout.{circuit_of, slices_of, tie_count_of, tie_bytes, ties_of}
use Rattle.set_file.specs.Reading.{taken_circuit, TakenFrom}
use Rattle.set_file.specs.declared.Taken.{Taken}
use Rattle.signatures.specs.Symbols.{symbol_column, named_columns}
use Rattle.signatures.specs.Sets.{given, named_of}
use Rattle.signatures.proofs.FreeLaws.{named_free}
use Rattle.signatures.proofs.TakenLaws.{whole, own_slices, own_spread, own_ties, own_within}
use Rattle.symbol_flags.proofs.FlagLaws.{flags_counted}
use Rattle.symbol_columns.specs.Powered.{FlagsIn}
use Rattle.symbol_columns.proofs.FillLaws.{named_length}
use Rattle.kept_words.specs.Working.{working_places, named_columns_of, with_symbols}

-- ---- how many

-- flags that aren't 0 are no more than flags
pub few_flags : (fs : List ℕ) (limit symbols : ℕ) → limit ≤ 256
    → symbols ≡ total (length (take limit fs)) (λ i. cond (eqb (get_or (take limit fs) i 0) 0) 0 1) → symbols ≤ 256
few_flags fs limit symbols h e =
    omega (arith, e, length-take limit fs, total_le (length (take limit fs)) 1 (λ i. cond (eqb (get_or (take limit fs) i 0) 0) 0 1) (λ i. one (eqb (get_or (take limit fs) i 0) 0)), mul-one (length (take limit fs)))
  where
    one : (b : Bool) → cond {A = ℕ} b 0 1 ≤ 1
    one true = omega arith
    one false = omega arith

pub named_of_set : (set : List ℕ) → length (named_columns_of set) ≡ named_of set
unfolding named_columns_of named_of
named_of_set set = named_length (circuit_of set) (slices_of set) (ties_of set)

-- ---- a working list with them

module _ (set w : List ℕ) where
  pub short_symbols : length w < working_places set → w ≡ with_symbols set w
  short_symbols h = rw (lt-ltb (length w) (working_places set) h)

  pub room_symbols : working_places set ≤ length w → with_symbols set w ≡ take 64 w ++ (named_columns_of set ++ drop (working_places set) w)
  room_symbols h = rw (le-ltb (length w) (working_places set) h)

  module _ (h : working_places set ≤ length w) where
    front_long : length (take 64 w ++ named_columns_of set) ≡ working_places set
    front_long =
        length-append (take 64 w) (named_columns_of set) ∙ ap₂ ◌+◌ (length-take-le 64 w (omega (arith, h))) (named_of_set set)

    split : with_symbols set w ≡ (take 64 w ++ named_columns_of set) ++ drop (working_places set) w
    split = room_symbols h ∙ sym (append_assoc (take 64 w) (named_columns_of set) (drop (working_places set) w))

    -- they stand behind the first 64 places
    pub symbols_behind : drop 64 (take (working_places set) (with_symbols set w)) ≡ named_columns_of set
    symbols_behind =
        ap (λ (l : List ℕ). drop 64 (take (working_places set) l)) split
        ∙ ap (drop 64) (take_at (take 64 w ++ named_columns_of set) (drop (working_places set) w) (working_places set) front_long)
        ∙ drop_at (take 64 w) (named_columns_of set) 64 (length-take-le 64 w (omega (arith, h)))

    -- .. and nothing else has changed there
    pub rest_as_was : drop (working_places set) (with_symbols set w) ≡ drop (working_places set) w
    rest_as_was =
        ap (drop (working_places set)) split ∙ drop_at (take 64 w ++ named_columns_of set) (drop (working_places set) w) (working_places set) front_long

-- ---- the ways out

module _ (set : List ℕ) (k : Taken) (taken : TakenFrom set k) (w : List ℕ) (count : ℕ) (ec : count ≡ tie_count_of set) where
  -- what is promised of the number of symbols, and of the working list
  abbrev pub PutFor : ℕ → List ℕ → Type 0
  PutFor r w' = (r ≡ named_of set) × (w' ≡ with_symbols set w)

  pub put_none : count ≡ 0 → PutFor 0 w
  unfolding named_of named_columns_of named_columns joined
  put_none z =
      let bare : tie_count_of set ≡ 0 = sym ec ∙ z in
      let none : named_of set ≡ 0 = named_free (given set) bare in
      let empty : named_columns_of set ≡ [] =
      ap (joined (λ i. listed (flag (ties_of set) i) (symbol_column (circuit_of set) (slices_of set) (ties_of set) ((ties_of set).symbol i)))) bare
      in (sym none, go (ltb (length w) (working_places set)) (ap (λ (n : ℕ). 64 + n) none) empty)
    where
      go : (b : Bool) → working_places set ≡ 64 → named_columns_of set ≡ [] → w ≡ cond b w (take 64 w ++ (named_columns_of set ++ drop (working_places set) w))
      go true p q = refl
      go false p q = sym (ap₂ (λ (l : List ℕ) (n : ℕ). take 64 w ++ (l ++ drop n w)) q p ∙ take-append-drop 64 w)

  module _ (ties flags : List ℕ) (limit symbols : ℕ) (et : ties ≡ tie_bytes set) (el : limit ≡ min count 256) (long : length flags ≡ 256)
      (right : count ≤ 256 → (i : ℕ) → i < count → get_or flags i 0 ≡ flag (ties_in ties count) i)
      (es : symbols ≡ total (length (take limit flags)) (λ i. cond (eqb (get_or (take limit flags) i 0) 0) 0 1)) where
    few : count ≤ 256
    few = omega (arith, ec, (whole set k taken).few)

    counted : symbols ≡ named_of set
    unfolding named_of
    counted =
        let all : limit ≡ count = omega (arith, el, few) in
        es ∙ ap (λ (i : ℕ). total (length (take i flags)) (λ j. cond (eqb (get_or (take i flags) j 0) 0) 0 1)) all
        ∙ flags_counted (ties_in ties count) flags (omega (arith, long, few)) (right few) ∙ ap named_symbols (own_ties set k taken ties count et ec)

    pub put_short : length w < 64 + symbols → PutFor symbols w
    put_short h = (counted, short_symbols set w (omega (arith, h, counted)))

    pub put_part : (part : List ℕ) → 64 + symbols ≤ length w
        → (Within (min k.s 512) (chains (taken_circuit k)) (ties_in ties count) → bad_spread (min k.register.m 64) (take k.n k.spread) ≡ false
        → FlagsIn flags (ties_in ties count)
        → length (named_columns (taken_circuit k) (min k.s 512) (ties_in ties count)) ≤ length (take (64 + symbols - 64) (drop 64 w))
        → part ≡ front (named_columns (taken_circuit k) (min k.s 512) (ties_in ties count)) (take (64 + symbols - 64) (drop 64 w)))
        → PutFor symbols (take 64 w ++ (part ++ drop (64 + symbols - 64) (drop 64 w)))
    unfolding named_columns_of
    put_part part room written =
        let same : named_columns (taken_circuit k) (min k.s 512) (ties_in ties count) ≡ named_columns_of set =
        ap₂ (λ (x : Circuit) (y : ℕ). named_columns x y (ties_in ties count)) taken.circuit (own_slices set k taken)
        ∙ ap (named_columns (circuit_of set) (slices_of set)) (own_ties set k taken ties count et ec)
        in
        let place : length (take (64 + symbols - 64) (drop 64 w)) ≡ symbols = length-take-le (64 + symbols - 64) (drop 64 w) (omega (arith, length-drop 64 w, room)) ∙ less in
        let fits : length (named_columns (taken_circuit k) (min k.s 512) (ties_in ties count)) ≡ length (take (64 + symbols - 64) (drop 64 w)) =
        ap length same ∙ named_of_set set ∙ sym counted ∙ sym place
        in
        let put : part ≡ named_columns_of set = written (own_within set k taken ties count et ec) (own_spread set k taken) (right few) (omega (arith, fits)) ∙ front_all _ _ fits ∙ same in
        let sum : 64 + symbols ≡ working_places set = ap (λ (i : ℕ). 64 + i) counted in
        let behind : drop (64 + symbols - 64) (drop 64 w) ≡ drop (working_places set) w =
        ap (λ (i : ℕ). drop i (drop 64 w)) less ∙ drop-drop symbols 64 w ∙ ap (λ (i : ℕ). drop i w) sum
        in
        (counted, ap₂ (λ (x y : List ℕ). take 64 w ++ (x ++ y)) put behind ∙ sym (room_symbols set w (omega (arith, room, counted))))
      where
        less : 64 + symbols - 64 ≡ symbols
        less = omega arith
