-- The writer's content: what one to which no number applies knows, how long its lists are, and number 10 byte by byte.
--
--   Writable k room    the content k is right in each part, and an output of `room` bytes has room for its file
--   writable           .. where no number applies
--   writable_back      .. and then none does
--   Last k room x      x is the first number that applies after 10
-- Assumes nothing.
use mathlib.Core.Path.{◌≡◌, refl, sym, ap, ap₂, ◌∙◌}
use mathlib.Core.Bool.{Bool, true, false, not, ◌||◌}
use mathlib.Core.List.{List, [], ◌∷◌, ◌++◌}
use Prim.Native.Nat.{ℕ, ◌+◌, ◌*◌, ◌/◌, ◌%◌, ◌≤◌, ◌<◌}
use native.Mathlib.Omega.{arith}
use borrow.Author.Tests.{ltb-false, le-ltb, eqb-true, not-false}
use lib.Dec.{eqb, ltb}
use lib.ListN.{length, get_or, take, drop}
use Rattle.word.specs.Word.{bad_width}
use Rattle.word.specs.Reply.{Test, ◌when◌, first_of}
use Rattle.word.proofs.BoolLaws.{or_false_left, or_false_right}
use Rattle.word.proofs.TestLaws.{none_and_rest, first_sooner, first_later}
use Rattle.word.proofs.ReplyLaws.{refuses, passes}
use Rattle.refusals.specs.declared.Refusal.{Refusal}
use Rattle.refusals.specs.Refusals.{number}
use Rattle.refusals.proofs.RefusalLaws.{not_zero}
use Rattle.rows.specs.Row.{cell, row_bytes}
use Rattle.rows.specs.Lists.{list_row, row_of, cells_of, shares_bit, spare_in, valued_unknown}
use Rattle.rows.proofs.ListLaws.{valued_lists}
use Rattle.rows.specs.declared.Rows.{Rows}
use Rattle.ties.specs.Ties.{entry_bytes, most_ties, ties_in, wrong_order, wrong_sides, tie_tests}
use Rattle.ties.proofs.EntryLaws.{tie_tests_marks}
use Rattle.register.specs.Circuit.{bad_taps, bad_inversion, bad_chains, too_many_slices}
use Rattle.chains.specs.Driven.{bad_spread}
use Rattle.set_layout.specs.Layout.{set_length}
use Rattle.set_layout.proofs.LayoutLaws.{good_chains}
use Rattle.set_content.specs.Content.{SetContent, content_chains, content_count, content_ties, content_marks, bad_rows, bad_entries, spare_in_lists, valued_in_lists, wrong_ties_in, set_write_tests}

pub chains_small : (n : ℕ) (r : Bool) → r ≡ bad_chains n → r ≡ false → n < 65536
chains_small n r e h = omega (arith, (good_chains n (sym e ∙ h)).1)

pub slices_small : (s : ℕ) (r : Bool) → r ≡ too_many_slices s → r ≡ false → s < 65536
slices_small s r e h = omega (arith, ltb-false 512 s (sym e ∙ h))

-- ---- the entries of ties

abbrev WrongEntries : List ℕ → Bool
WrongEntries e = not (eqb (length e % entry_bytes) 0) || ltb (entry_bytes * most_ties) (length e)

entries_few : (e : List ℕ) → WrongEntries e ≡ false → length e ≤ entry_bytes * most_ties
entries_few e h =
    ltb-false (entry_bytes * most_ties) (length e) (or_false_right (not (eqb (length e % entry_bytes) 0)) (ltb (entry_bytes * most_ties) (length e)) h)

entries_whole : (e : List ℕ) → WrongEntries e ≡ false → length e ≡ entry_bytes * (length e / entry_bytes)
entries_whole e h =
    let whole : length e % entry_bytes ≡ 0 = eqb-true (length e % entry_bytes) 0 (not-false _ (or_false_left (not (eqb (length e % entry_bytes) 0)) _ h)) in
    omega (arith, whole)

-- the rows of a list, by their place and stride
row_listed : (l : List ℕ) (n : ℕ) (r : Rows) → (r.at ≡ 0) × (r.stride ≡ row_bytes n) × (r.bytes ≡ row_bytes n)
    → (t : ℕ) → row_of l r t ≡ list_row n l t
unfolding list_row
row_listed l n r h t =
    let from : 0 + row_bytes n * t ≡ row_bytes n * t = omega arith in
    ap₂ (λ (k i : ℕ). take k (drop i l)) h.2 (ap₂ (λ (x y : ℕ). x + y * t) h.0 h.1 ∙ from)

pub tied_lists : (l e : List ℕ) (n s k x : ℕ) (r : Rows) → (r.at ≡ 0) × (r.stride ≡ row_bytes n) × (r.bytes ≡ row_bytes n)
    → x ≡ first_of (tie_tests s n (cells_of l r) (ties_in e k)) → x ≡ first_of (tie_tests s n (λ t. cell (list_row n l t)) (ties_in e k))
tied_lists l e n s k x r er ex =
    ex
    ∙ tie_tests_marks s n (cells_of l r) (λ t. cell (list_row n l t)) (ties_in e k) (λ t b c. ap (λ (row : List ℕ). cell row c) (row_listed l n r er t))

-- ---- two lists of s rows of n chains

module _ (n s : ℕ) (v k : List ℕ) where
  abbrev WrongRows : Bool
  WrongRows = not (eqb (length v) (row_bytes n * s)) || not (eqb (length k) (row_bytes n * s))

  first_length : WrongRows ≡ false → length v ≡ row_bytes n * s
  first_length h = eqb-true (length v) (row_bytes n * s) (not-false _ (or_false_left (not (eqb (length v) (row_bytes n * s))) _ h))

  second_length : WrongRows ≡ false → length k ≡ row_bytes n * s
  second_length h = eqb-true (length k) (row_bytes n * s) (not-false _ (or_false_right (not (eqb (length v) (row_bytes n * s))) _ h))

  -- number 10, after 8 and 9
  pub valued_of_lists : (r₈ r₉ r w : Bool) → r₈ ≡ (WrongRows || w) → r₈ ≡ false → r₉ ≡ (spare_in n (list_row n v) s || spare_in n (list_row n k) s) → r₉ ≡ false
      → ((i : ℕ) → get_or k i 0 < 256) → r ≡ shares_bit v k → r ≡ valued_unknown n (list_row n v) (list_row n k) s
  valued_of_lists r₈ r₉ r w e₈ h₈ e₉ h₉ small e =
      let rows : WrongRows ≡ false = or_false_left WrongRows w (sym e₈ ∙ h₈) in
      e
      ∙ valued_lists n s v k (first_length rows) (second_length rows)
      (or_false_right (spare_in n (list_row n v) s) (spare_in n (list_row n k) s) (sym e₉ ∙ h₉)) small

module _ (k : SetContent) (rows : bad_rows k ≡ false) where
  pub values_length : length k.values ≡ row_bytes (content_chains k) * k.s
  values_length = first_length (content_chains k) k.s k.values k.marks rows

  pub marks_length : length k.marks ≡ row_bytes (content_chains k) * k.s
  marks_length = second_length (content_chains k) k.s k.values k.marks rows

module _ (k : SetContent) (entries : bad_entries k ≡ false) where
  pub ties_length : length k.ties ≡ entry_bytes * content_count k
  ties_length = entries_whole k.ties entries

  pub ties_few : content_count k ≤ most_ties
  ties_few = omega (arith, entries_few k.ties entries)

-- .. as test 8 leaves it
pub count_small : (k : SetContent) (r : Bool) → r ≡ (bad_rows k || bad_entries k) → r ≡ false → content_count k < 65536
count_small k r e h = omega (arith, ties_few k (or_false_right (bad_rows k) (bad_entries k) (sym e ∙ h)))

-- ---- the numbers after 10: those of the ties, and 24 behind them

module _ (k : SetContent) (room : ℕ) where
  abbrev TieTests : List Test
  TieTests = tie_tests k.s (content_chains k) (content_marks k) (content_ties k)

  abbrev Short : Bool
  Short = ltb room (set_length (content_chains k) k.s (content_count k))

  abbrev pub Last : ℕ → Type 0
  Last x = x ≡ first_of (TieTests ++ 24 when Short ∷ [])

  pub last_tied : (e : Refusal) → number e ≡ first_of TieTests → Last (number e)
  last_tied e h = first_sooner TieTests (24 when Short ∷ []) (number e) h (not_zero e)

  module _ (none : 0 ≡ first_of TieTests) (r : Bool) (er : r ≡ Short) where
    pub last_short : r ≡ true → Last 24
    last_short on = first_later TieTests (24 when Short ∷ []) 0 24 refl none refl (refuses Short r 24 0 er on)

    pub last_none : r ≡ false → Last 0
    last_none off = first_later TieTests (24 when Short ∷ []) 0 0 refl none refl (passes Short r 24 0 0 er off refl)

-- ---- a content to which no number applies

pub record Writable (k : SetContent) (room : ℕ) : Type 0 where
  pub width : bad_width k.m ≡ false
  pub taps : bad_taps k.m k.taps ≡ false
  pub inversion : bad_inversion k.m k.inversion ≡ false
  pub chains : bad_chains (content_chains k) ≡ false
  pub spread : bad_spread k.m k.spread ≡ false
  pub slices : k.s ≤ 512
  pub rows : bad_rows k ≡ false
  pub entries : bad_entries k ≡ false
  pub clean : spare_in_lists k ≡ false
  pub unvalued : valued_in_lists k ≡ false
  pub ties : wrong_ties_in k ≡ false
  pub order : wrong_order (content_ties k) ≡ false
  pub sides : wrong_sides (content_ties k) ≡ false
  pub fits : set_length (content_chains k) k.s (content_count k) ≤ room

pub writable : (k : SetContent) (room : ℕ) → first_of (set_write_tests k room) ≡ 0 → Writable k room
unfolding set_write_tests
writable k room h =
    let p2 = none_and_rest (bad_width k.m) 1 _ h in
    let p3 = none_and_rest (bad_taps k.m k.taps) 2 _ p2.1 in
    let p25 = none_and_rest (bad_inversion k.m k.inversion) 24 _ p3.1 in
    let p4 = none_and_rest (bad_chains (content_chains k)) 3 _ p25.1 in
    let p6 = none_and_rest (bad_spread k.m k.spread) 5 _ p4.1 in
    let p7 = none_and_rest (too_many_slices k.s) 6 _ p6.1 in
    let p8 = none_and_rest (bad_rows k || bad_entries k) 7 _ p7.1 in
    let p9 = none_and_rest (spare_in_lists k) 8 _ p8.1 in
    let p10 = none_and_rest (valued_in_lists k) 9 _ p9.1 in
    let p29 = none_and_rest (wrong_ties_in k) 28 _ p10.1 in
    let p30 = none_and_rest (wrong_order (content_ties k)) 29 _ p29.1 in
    let p31 = none_and_rest (wrong_sides (content_ties k)) 30 _ p30.1 in
    let p24 = none_and_rest (ltb room (set_length (content_chains k) k.s (content_count k))) 23 _ p31.1 in
    record {
      width = p2.0;
      taps = p3.0;
      inversion = p25.0;
      chains = p4.0;
      spread = p6.0;
      slices = ltb-false 512 k.s p7.0;
      rows = or_false_left (bad_rows k) (bad_entries k) p8.0;
      entries = or_false_right (bad_rows k) (bad_entries k) p8.0;
      clean = p9.0;
      unvalued = p10.0;
      ties = p29.0;
      order = p30.0;
      sides = p31.0;
      fits = ltb-false room (set_length (content_chains k) k.s (content_count k)) p24.0;
    }

-- a content that is right in each part meets no number
pub writable_back : (k : SetContent) (room : ℕ) → Writable k room → first_of (set_write_tests k room) ≡ 0
unfolding set_write_tests
writable_back k room w =
    let few : too_many_slices k.s ≡ false = le-ltb 512 k.s w.slices in
    let last : ltb room (set_length (content_chains k) k.s (content_count k)) ≡ false =
    le-ltb room (set_length (content_chains k) k.s (content_count k)) w.fits
    in
    rw (w.width, w.taps, w.inversion, w.chains, w.spread, few, w.rows, w.entries, w.clean, w.unvalued, w.ties, w.order, w.sides, last)
