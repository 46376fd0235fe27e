-- What the set writer writes the set reader and the row calls read back, and a set that is accepted is the file of its content:
--
--   Holds k set        the set file `set` gives m, the tap word, the inversion word, the spread words, s, the rows and the entries of ties of
--                      the content k
--   written_holds      .. as the file that the writer makes of k does
--   ReadBack k         what the set reader and the row calls answer of that file
--   written_set        .. so they give back what the writer was handed
--   written_output     .. and that file is the front of the output, as many bytes as the writer answers with
--   content_holds      an accepted set gives its own content
--   file_of_content    an accepted set that gives the content k is the file of k
--   set_of_content     .. and so it is the file of its own content
--   content_written    the writer takes the content of an accepted set, where the output has room for it
--   one_file           two accepted sets with the same m, tap word, inversion word, spread words, s, rows and entries are the same file
-- .. and at the height of the calls, with the whole content as one value:
--   content_back       the content of the file that the writer makes of k is k
--   output_back        .. so the output's front, as long as the writer answers, is an accepted set with the content k
--   written_again      the content of an accepted set, written, is that set at the front of the output
--   one_content        two accepted sets with one content are one file
-- Assumes nothing.
use mathlib.Core.Path.{◌≡◌, refl, sym, ap, ap₂, ◌∙◌}
use mathlib.Core.Bool.{Bool, false, not, ◌||◌}
use mathlib.Core.List.{List, [], ◌++◌, append_assoc}
use Prim.Native.Nat.{ℕ, ◌+◌, ◌*◌, ◌%◌, ◌^◌, ◌≤◌, ◌<◌}
use native.Mathlib.Nat.{lt_of_lt_of_le}
use native.Mathlib.Omega.{arith}
use borrow.Author.Tests.{eq-eqb, le-ltb}
use lib.ListN.{length, get_or, take, drop, length-append, length-drop, take-append-drop}
use lib.Pow.{pow_mono}
use lib.Seq.{take_all, take_at, drop_at, take-append-le, drop-append-le, length-take-le}
use Rattle.word.specs.Word.{bad_width}
use Rattle.word.specs.Reply.{Reply, answer, first_of, front, lent}
use Rattle.word.proofs.BoolLaws.{or_false}
use Rattle.word.proofs.TestLaws.{replied_answer}
use Rattle.word.proofs.WordLaws.{good_width}
use Rattle.numbers.specs.Bytes.{count_at, word_at, words_at, bytes_of, word_bytes}
use Rattle.numbers.specs.Joined.{joined}
use Rattle.numbers.proofs.ByteLaws.{bytes_of_length, length_word_bytes}
use Rattle.numbers.proofs.FileLaws.{number_back, words_back, number_bytes, words_bytes, part_joins}
use Rattle.numbers.proofs.JoinLaws.{joined_ext, joined_length, joined_row, joined_back}
use Rattle.rows.specs.Row.{cell, row_bytes}
use Rattle.rows.specs.Lists.{list_row, spare_in, valued_unknown}
use Rattle.rows.proofs.CellLaws.{row_step, list_row_length}
use Rattle.rows.proofs.ListLaws.{spare_in_ext, valued_ext}
use Rattle.ties.specs.Ties.{entry_bytes, most_ties, ties_in, wrong_cells, wrong_order, wrong_sides}
use Rattle.ties.proofs.EntryLaws.{wrong_cells_marks}
use Rattle.register.specs.Circuit.{bad_taps, bad_inversion, bad_chains}
use Rattle.chains.specs.Driven.{bad_spread}
use Rattle.register.proofs.Laws.{good_taps, good_inversion}
use Rattle.chains.proofs.Laws.{good_spread}
use Rattle.set_layout.specs.Layout.{taps_at, inversion_at, chains_at, spread_at, slices_at, rows_at, tie_count_at, ties_at, set_length, width_of, taps_of, inversion_of, chains_of, spread_of, slices_of, value_row, mark_row, values_of, marks_of, marks, tie_count_of, tie_bytes, ties_of, no_words}
use Rattle.set_layout.proofs.LayoutLaws.{spread_length}
use Rattle.set_layout.proofs.SliceLaws.{rows_of}
use Rattle.set_layout.proofs.SliceLaws as slices
use Rattle.set_file.specs.Reading.{spare_in_rows, valued_in_rows, wrong_ties, set_tests, SetParts, set_reply, spread_beside}
use Rattle.set_file.proofs.Laws.{Accepted, accepted, accepted_back, value_row_length, mark_row_length, set_answers}
use Rattle.slice_rows.specs.Rows.{value_reply, mark_reply, ties_reply, stretch}
use Rattle.slice_rows.proofs.PlaceLaws.{value_stretch, mark_stretch, ties_stretch}
use Rattle.set_content.specs.Content.{SetContent, set_content, content_in, content_chains, content_count, content_ties, content_marks, bad_rows, bad_entries, spare_in_lists, valued_in_lists, wrong_ties_in, set_write_tests}
use Rattle.set_content.proofs.ContentLaws.{Writable, writable, writable_back, chains_small, values_length, marks_length, ties_length, ties_few}
use Rattle.set_writer.specs.Writing.{head_bytes, slice_bytes, set_bytes, set_write_reply}
use Rattle.set_writer.proofs.WriteLaws.{slice_length}
use Rattle.set_writer.proofs.FileLaws.{head_length_lem, slices_end, set_bytes_length, write_answers}

-- ---- a set file and a content

pub record Holds (k : SetContent) (set : List ℕ) : Type 0 where
  pub width : width_of set ≡ k.m
  pub taps : taps_of set ≡ k.taps
  pub inversion : inversion_of set ≡ k.inversion
  pub spread : spread_of set ≡ k.spread
  pub slices : slices_of set ≡ k.s
  pub value_rows : (t : ℕ) → t < k.s → value_row set t ≡ list_row (content_chains k) k.values t
  pub mark_rows : (t : ℕ) → t < k.s → mark_row set t ≡ list_row (content_chains k) k.marks t
  pub ties : tie_bytes set ≡ k.ties

module _ (k : SetContent) (set : List ℕ) (h : Holds k set) where
  same_chains : chains_of set ≡ content_chains k
  same_chains = sym (spread_length set) ∙ ap length h.spread

  -- 9 and 10 are met by the one where they are met by the other
  same_spare : spare_in_rows set ≡ spare_in_lists k
  same_spare =
      ap₂ (λ (n s : ℕ). spare_in n (value_row set) s || spare_in n (mark_row set) s) same_chains h.slices
      ∙ ap₂ (λ (a b : Bool). a || b) (spare_in_ext (content_chains k) k.s _ _ h.value_rows) (spare_in_ext (content_chains k) k.s _ _ h.mark_rows)

  same_valued : valued_in_rows set ≡ valued_in_lists k
  same_valued =
      ap₂ (λ (n s : ℕ). valued_unknown n (value_row set) (mark_row set) s) same_chains h.slices
      ∙ valued_ext (content_chains k) k.s _ _ _ _ h.value_rows h.mark_rows

  -- .. and so are 29 to 31, where both have as many entries
  module _ (count : tie_count_of set ≡ content_count k) where
    same_ties : ties_of set ≡ content_ties k
    same_ties = ap₂ ties_in h.ties count

    same_wrong : wrong_ties set ≡ wrong_ties_in k
    same_wrong =
        ap₂ (λ (s n : ℕ). wrong_cells s n (marks set) (ties_of set)) h.slices same_chains
        ∙ ap (wrong_cells k.s (content_chains k) (marks set)) same_ties
        ∙ wrong_cells_marks k.s (content_chains k) (marks set) (content_marks k) (content_ties k)
        (λ t l c. ap (λ (row : List ℕ). cell row c) (h.mark_rows t l))

  -- a set of the right length has as many entries as its bytes make
  same_count : length set ≡ set_length (chains_of set) (slices_of set) (tie_count_of set) → tie_count_of set ≡ content_count k
  same_count long =
      let bytes : length k.ties ≡ entry_bytes * tie_count_of set = ap length (sym h.ties) ∙ slices.tie_bytes_length set long in
      omega (arith, bytes)

same_parts : (a b c d : List ℕ) (n : ℕ) → length a ≡ n → length c ≡ n → a ++ b ≡ c ++ d → (a ≡ c) × (b ≡ d)
same_parts a b c d n ea ec e =
    (sym (take_at a b n ea) ∙ ap (take n) e ∙ take_at c d n ec, sym (drop_at a b n ea) ∙ ap (drop n) e ∙ drop_at c d n ec)

-- a part of the front of a list
part_of_front : (a b : List ℕ) (i n : ℕ) → i + n ≤ length a → take n (drop i (a ++ b)) ≡ take n (drop i a)
part_of_front a b i n h =
    let inside : n ≤ length (drop i a) = omega (arith, h, length-drop i a) in
    ap (take n) (drop-append-le i a b (omega (arith, h))) ∙ take-append-le n (drop i a) b inside

-- ---- the file that was written

-- the file, part after part
file_parts_lem : (k : SetContent)
    → set_bytes k
    ≡ bytes_of 2 k.m
    ++ (bytes_of 8 k.taps ++ (bytes_of 8 k.inversion ++ (bytes_of 2 (content_chains k) ++ (word_bytes k.spread ++ (bytes_of 2 k.s ++ (joined (slice_bytes (content_chains k) k.values k.marks) k.s ++ (bytes_of 2 (content_count k) ++ k.ties)))))))
unfolding set_bytes head_bytes
file_parts_lem k = simp append_assoc

module _ (k : SetContent) (room : ℕ) (w : Writable k room) where
  abbrev n : ℕ
  n = content_chains k

  -- the parts of the head, the rows, and what follows the head
  abbrev width_taps : List ℕ
  width_taps = bytes_of 2 k.m ++ bytes_of 8 k.taps

  abbrev start : List ℕ
  start = width_taps ++ bytes_of 8 k.inversion

  abbrev rows : List ℕ
  rows = joined (slice_bytes n k.values k.marks) k.s

  abbrev body : List ℕ
  body = rows ++ (bytes_of 2 (content_count k) ++ k.ties)

  most_width : k.m ≤ 64
  most_width = (good_width k.m w.width).1

  chains_fit : n < 256 ^ 2
  chains_fit = omega (arith, chains_small n false (sym w.chains) refl)

  taps_long : length width_taps ≡ inversion_at
  taps_long =
      length-append (bytes_of 2 k.m) (bytes_of 8 k.taps) ∙ omega (arith, bytes_of_length 2 k.m, bytes_of_length 8 k.taps)

  start_long : length start ≡ chains_at
  start_long = length-append width_taps (bytes_of 8 k.inversion) ∙ omega (arith, taps_long, bytes_of_length 8 k.inversion)

  count_long : length (start ++ bytes_of 2 n) ≡ spread_at
  count_long = length-append start (bytes_of 2 n) ∙ omega (arith, start_long, bytes_of_length 2 n)

  spread_long : length (start ++ bytes_of 2 n ++ word_bytes k.spread) ≡ slices_at n
  spread_long = length-append (start ++ bytes_of 2 n) (word_bytes k.spread) ∙ omega (arith, count_long, length_word_bytes k.spread)

  -- the file from its inversion word, from n, from its spread words and from s on
  from_inversion : set_bytes k ≡ width_taps ++ (bytes_of 8 k.inversion ++ (bytes_of 2 n ++ (word_bytes k.spread ++ (bytes_of 2 k.s ++ body))))
  from_inversion = file_parts_lem k ∙ sym (append_assoc (bytes_of 2 k.m) (bytes_of 8 k.taps) _)

  from_chains : set_bytes k ≡ start ++ (bytes_of 2 n ++ (word_bytes k.spread ++ (bytes_of 2 k.s ++ body)))
  from_chains = from_inversion ∙ sym (append_assoc width_taps (bytes_of 8 k.inversion) _)

  from_spread : set_bytes k ≡ start ++ bytes_of 2 n ++ (word_bytes k.spread ++ (bytes_of 2 k.s ++ body))
  from_spread = from_chains ∙ sym (append_assoc start (bytes_of 2 n) _)

  from_slices : set_bytes k ≡ start ++ bytes_of 2 n ++ word_bytes k.spread ++ (bytes_of 2 k.s ++ body)
  from_slices = from_spread ∙ sym (append_assoc (start ++ bytes_of 2 n) (word_bytes k.spread) _)

  written_chains : chains_of (set_bytes k) ≡ n
  written_chains = ap (λ (s : List ℕ). count_at s chains_at) from_chains ∙ number_back 2 n start _ chains_at start_long chains_fit

  written_spread : spread_of (set_bytes k) ≡ k.spread
  written_spread =
      ap₂ (λ (s : List ℕ) (c : ℕ). words_at s spread_at c) from_spread written_chains
      ∙ words_back k.spread (start ++ bytes_of 2 n) _ spread_at count_long
      (λ j. lt_of_lt_of_le (good_spread k.m k.spread w.spread j) (pow_mono most_width))

  written_slices : slices_of (set_bytes k) ≡ k.s
  written_slices =
      ap₂ (λ (s : List ℕ) (c : ℕ). count_at s (slices_at c)) from_slices written_chains
      ∙ number_back 2 k.s (start ++ bytes_of 2 n ++ word_bytes k.spread) _ (slices_at n) spread_long (omega (arith, w.slices))

  -- ---- its ties

  abbrev head : List ℕ
  head = head_bytes k.m k.taps k.inversion k.spread k.s

  written_count : tie_count_of (set_bytes k) ≡ content_count k
  unfolding set_bytes
  written_count =
      ap₂ (λ (c s : ℕ). count_at (set_bytes k) (tie_count_at c s)) written_chains written_slices
      ∙ number_back 2 (content_count k) (head ++ rows) k.ties (tie_count_at n k.s) (slices_end k w.rows) (omega (arith, ties_few k w.entries))

  written_ties : tie_bytes (set_bytes k) ≡ k.ties
  unfolding tie_bytes set_bytes
  written_ties =
      let before : length (head ++ rows ++ bytes_of 2 (content_count k)) ≡ ties_at n k.s =
      length-append (head ++ rows) (bytes_of 2 (content_count k)) ∙ omega (arith, slices_end k w.rows, bytes_of_length 2 (content_count k))
      in
      ap₂ (λ (c s : ℕ). take (entry_bytes * tie_count_of (set_bytes k)) (drop (ties_at c s) (set_bytes k))) written_chains written_slices
      ∙ ap₂ (λ (c : ℕ) (l : List ℕ). take (entry_bytes * c) (drop (ties_at n k.s) l)) written_count (sym (append_assoc (head ++ rows) (bytes_of 2 (content_count k)) k.ties))
      ∙ ap (take (entry_bytes * content_count k)) (drop_at (head ++ rows ++ bytes_of 2 (content_count k)) k.ties (ties_at n k.s) before)
      ∙ take_all (entry_bytes * content_count k) k.ties (omega (arith, ties_length k w.entries))

  written_long : length (set_bytes k) ≡ set_length (chains_of (set_bytes k)) (slices_of (set_bytes k)) (tie_count_of (set_bytes k))
  written_long =
      set_bytes_length k w.rows w.entries
      ∙ ap₂ (λ (c s : ℕ). set_length c s (content_count k)) (sym written_chains) (sym written_slices)
      ∙ ap (set_length (chains_of (set_bytes k)) (slices_of (set_bytes k))) (sym written_count)

  -- ---- its rows

  written_body : rows_of (set_bytes k) ≡ body
  unfolding set_bytes
  written_body =
      ap (λ (c : ℕ). drop (rows_at c) (set_bytes k)) written_chains
      ∙ ap (drop (rows_at n)) (append_assoc head rows (bytes_of 2 (content_count k) ++ k.ties))
      ∙ drop_at head body (rows_at n) (head_length_lem k.m k.taps k.inversion k.spread k.s)

  slice_long : (t : ℕ) → t < k.s → length (slice_bytes n k.values k.marks t) ≡ 2 * row_bytes n
  slice_long t l =
      slice_length n k.values k.marks t (omega (arith, row_step (row_bytes n) t k.s l, values_length k w.rows))
      (omega (arith, row_step (row_bytes n) t k.s l, marks_length k w.rows))

  written_slice : (t : ℕ) → t < k.s → (value_row (set_bytes k) t ≡ list_row n k.values t) × (mark_row (set_bytes k) t ≡ list_row n k.marks t)
  unfolding slice_bytes
  written_slice t l =
      same_parts (value_row (set_bytes k) t) (mark_row (set_bytes k) t) (list_row n k.values t) (list_row n k.marks t) (row_bytes n)
      (slices.value_row_length (set_bytes k) written_long t (rw written_slices l) ∙ ap row_bytes written_chains)
      (list_row_length n k.values k.s t (values_length k w.rows) l)
      (slices.slice_of (set_bytes k) t
      ∙ ap₂ (λ (c : ℕ) (x : List ℕ). take (2 * row_bytes c) (drop (2 * row_bytes c * t) x)) written_chains written_body
      ∙ part_of_front rows (bytes_of 2 (content_count k) ++ k.ties) (2 * row_bytes n * t) (2 * row_bytes n)
      (omega (arith, row_step (2 * row_bytes n) t k.s l, joined_length (2 * row_bytes n) (slice_bytes n k.values k.marks) k.s slice_long))
      ∙ joined_row (2 * row_bytes n) (slice_bytes n k.values k.marks) k.s t slice_long l)

  pub written_holds : Holds k (set_bytes k)
  written_holds = record {
    width =
        ap (λ (s : List ℕ). count_at s 0) (file_parts_lem k) ∙ number_back 2 k.m [] _ 0 refl (omega (arith, most_width));
    taps =
        ap (λ (s : List ℕ). word_at s taps_at) (file_parts_lem k)
        ∙ number_back 8 k.taps (bytes_of 2 k.m) _ taps_at (bytes_of_length 2 k.m)
        (lt_of_lt_of_le (good_taps k.m k.taps w.taps).1 (pow_mono most_width));
    inversion =
        ap (λ (s : List ℕ). word_at s inversion_at) from_inversion
        ∙ number_back 8 k.inversion width_taps _ inversion_at taps_long
        (lt_of_lt_of_le (good_inversion k.m k.inversion w.inversion) (pow_mono most_width));
    spread = written_spread;
    slices = written_slices;
    value_rows = λ t l. (written_slice t l).0;
    mark_rows = λ t l. (written_slice t l).1;
    ties = written_ties;
  }

  -- two lists of s rows, from the rows that a set gives
  list_back : (l : List ℕ) (f : ℕ → List ℕ) → length l ≡ row_bytes n * k.s → ((t : ℕ) → t < k.s → f t ≡ list_row n l t) → joined f k.s ≡ l
  unfolding list_row
  list_back l f long each = joined_ext f (list_row n l) k.s each ∙ joined_back (row_bytes n) l k.s (omega (arith, long))

  written_content : content_in (set_bytes k) ≡ k
  written_content =
      let h : Holds k (set_bytes k) = written_holds in
      let values : values_of (set_bytes k) ≡ k.values =
      ap (joined (value_row (set_bytes k))) written_slices ∙ list_back k.values (value_row (set_bytes k)) (values_length k w.rows) h.value_rows
      in
      let marks : marks_of (set_bytes k) ≡ k.marks =
      ap (joined (mark_row (set_bytes k))) written_slices ∙ list_back k.marks (mark_row (set_bytes k)) (marks_length k w.rows) h.mark_rows
      in
      ap₂ (λ (x y : List ℕ). set_content (width_of (set_bytes k)) (taps_of (set_bytes k)) (inversion_of (set_bytes k)) (spread_of (set_bytes k)) x y (slices_of (set_bytes k)) (tie_bytes (set_bytes k))) values marks
      ∙ ap₂ (λ (x y : ℕ). set_content x y (inversion_of (set_bytes k)) (spread_of (set_bytes k)) k.values k.marks (slices_of (set_bytes k)) (tie_bytes (set_bytes k))) h.width h.taps
      ∙ ap₂ (λ (x : ℕ) (y : List ℕ). set_content k.m k.taps x (spread_of (set_bytes k)) k.values k.marks (slices_of (set_bytes k)) y) h.inversion h.ties
      ∙ ap₂ (λ (x : List ℕ) (y : ℕ). set_content k.m k.taps k.inversion x k.values k.marks y k.ties) h.spread h.slices

  pub written_accepted : Accepted (set_bytes k)
  written_accepted =
      let h : Holds k (set_bytes k) = written_holds in
      record {
        width = ap bad_width h.width ∙ w.width;
        taps = ap₂ bad_taps h.width h.taps ∙ w.taps;
        inversion = ap₂ bad_inversion h.width h.inversion ∙ w.inversion;
        chains = ap bad_chains written_chains ∙ w.chains;
        spread = ap₂ bad_spread h.width h.spread ∙ w.spread;
        slices = omega (arith, written_slices, w.slices);
        few = omega (arith, written_count, ties_few k w.entries);
        long = written_long;
        clean = same_spare k (set_bytes k) h ∙ w.clean;
        unvalued = same_valued k (set_bytes k) h ∙ w.unvalued;
        ties = same_wrong k (set_bytes k) h written_count ∙ w.ties;
        order = ap wrong_order (same_ties k (set_bytes k) h written_count) ∙ w.order;
        sides = ap wrong_sides (same_ties k (set_bytes k) h written_count) ∙ w.sides;
      }

-- ---- what the set reader and the row calls answer of it

pub record ReadBack (k : SetContent) : Type 0 where
  pub reply : set_reply (set_bytes k) ≡ answer (record { m = k.m; taps = k.taps; inversion = k.inversion; n = content_chains k; s = k.s })
  pub spread : spread_of (set_bytes k) ≡ k.spread
  pub beside : spread_beside (set_bytes k) ≡ front k.spread no_words
  pub long : length (set_bytes k) ≡ set_length (content_chains k) k.s (content_count k)
  pub value_rows : (t : ℕ) → t < k.s → value_row (set_bytes k) t ≡ list_row (content_chains k) k.values t
  pub mark_rows : (t : ℕ) → t < k.s → mark_row (set_bytes k) t ≡ list_row (content_chains k) k.marks t
  pub value_stretches : (t : ℕ) → t < k.s → stretch (value_reply (set_bytes k) t) (set_bytes k) ≡ list_row (content_chains k) k.values t
  pub mark_stretches : (t : ℕ) → t < k.s → stretch (mark_reply (set_bytes k) t) (set_bytes k) ≡ list_row (content_chains k) k.marks t
  pub count : tie_count_of (set_bytes k) ≡ content_count k
  pub ties : tie_bytes (set_bytes k) ≡ k.ties
  pub tie_stretch : stretch (ties_reply (set_bytes k)) (set_bytes k) ≡ k.ties

-- a content to which none of the writer's numbers applies, with an output of `room` bytes
pub written_set : (k : SetContent) (room : ℕ) → first_of (set_write_tests k room) ≡ 0 → ReadBack k
unfolding spread_beside
written_set k room none =
    let w : Writable k room = writable k room none in
    let h : Holds k (set_bytes k) = written_holds k room w in
    let taken : first_of (set_tests (set_bytes k)) ≡ 0 = accepted_back (set_bytes k) (written_accepted k room w) in
    let parts : set_reply (set_bytes k) ≡ answer (record { m = k.m; taps = k.taps; inversion = k.inversion; n = content_chains k; s = k.s }) =
    set_answers (set_bytes k) taken ∙ rw (h.slices, h.width, h.taps, h.inversion, same_chains k (set_bytes k) h)
    in
    record {
      reply = parts;
      spread = h.spread;
      beside = ap₂ (λ (r : Reply SetParts) (ws : List ℕ). lent r ws no_words) parts h.spread;
      long = set_bytes_length k w.rows w.entries;
      value_rows = h.value_rows;
      mark_rows = h.mark_rows;
      value_stretches = λ t l. value_stretch (set_bytes k) taken t (rw h.slices l) ∙ h.value_rows t l;
      mark_stretches = λ t l. mark_stretch (set_bytes k) taken t (rw h.slices l) ∙ h.mark_rows t l;
      count = written_count k room w;
      ties = h.ties;
      tie_stretch = ties_stretch (set_bytes k) taken ∙ h.ties;
    }

-- what the writer's answer knows
answered : (k : SetContent) (room n : ℕ) → set_write_reply k room ≡ answer n → (first_of (set_write_tests k room) ≡ 0) × (n ≡ set_length (content_chains k) k.s (content_count k))
unfolding set_write_reply
answered k room n e = replied_answer (first_of (set_write_tests k room)) (set_length (content_chains k) k.s (content_count k)) n e

pub written_output : (k : SetContent) (l : List ℕ) (n : ℕ) → set_write_reply k (length l) ≡ answer n
    → take n (lent (set_write_reply k (length l)) (set_bytes k) l) ≡ set_bytes k
unfolding front
written_output k l n e =
    let done = answered k (length l) n e in
    let w : Writable k (length l) = writable k (length l) done.0 in
    let long : length (set_bytes k) ≡ n = set_bytes_length k w.rows w.entries ∙ sym done.1 in
    ap (λ (r : Reply ℕ). take n (lent r (set_bytes k) l)) e ∙ take_at (set_bytes k) _ n long

-- ---- an accepted set, part after part

module _ (set : List ℕ) (a : Accepted set) where
  pub content_holds : Holds (content_in set) set
  unfolding list_row
  content_holds = record {
    width = refl;
    taps = refl;
    inversion = refl;
    spread = refl;
    slices = refl;
    value_rows =
        λ t l.
        sym (ap (λ (n : ℕ). take (row_bytes n) (drop (row_bytes n * t) (values_of set))) (spread_length set)
        ∙ joined_row (row_bytes (chains_of set)) (value_row set) (slices_of set) t (value_row_length set a) l);
    mark_rows =
        λ t l.
        sym (ap (λ (n : ℕ). take (row_bytes n) (drop (row_bytes n * t) (marks_of set))) (spread_length set)
        ∙ joined_row (row_bytes (chains_of set)) (mark_row set) (slices_of set) t (mark_row_length set a) l);
    ties = refl;
  }

  content_count_lem : tie_count_of set ≡ content_count (content_in set)
  content_count_lem = same_count (content_in set) set content_holds a.long

  content_rows : bad_rows (content_in set) ≡ false
  content_rows =
      let n : length (spread_of set) ≡ chains_of set = spread_length set in
      or_false _ _
      (ap not
      (eq-eqb _ _
      (joined_length (row_bytes (chains_of set)) (value_row set) (slices_of set) (value_row_length set a) ∙ ap (λ (x : ℕ). row_bytes x * slices_of set) (sym n))))
      (ap not
      (eq-eqb _ _
      (joined_length (row_bytes (chains_of set)) (mark_row set) (slices_of set) (mark_row_length set a) ∙ ap (λ (x : ℕ). row_bytes x * slices_of set) (sym n))))

  content_entries : bad_entries (content_in set) ≡ false
  content_entries =
      let bytes : length (tie_bytes set) ≡ entry_bytes * tie_count_of set = slices.tie_bytes_length set a.long in
      let whole : length (tie_bytes set) % entry_bytes ≡ 0 = omega (arith, bytes) in
      let few : length (tie_bytes set) ≤ entry_bytes * most_ties = omega (arith, bytes, a.few) in
      or_false _ _ (ap not (eq-eqb (length (tie_bytes set) % entry_bytes) 0 whole)) (le-ltb (entry_bytes * most_ties) (length (tie_bytes set)) few)

  own_length : set_length (content_chains (content_in set)) (slices_of set) (content_count (content_in set)) ≡ length set
  own_length =
      ap₂ (λ (n k : ℕ). set_length n (slices_of set) k) (spread_length set) (sym content_count_lem) ∙ sym a.long

  content_writable : (room : ℕ) → length set ≤ room → Writable (content_in set) room
  content_writable room fits = record {
    width = a.width;
    taps = a.taps;
    inversion = a.inversion;
    chains = ap bad_chains (spread_length set) ∙ a.chains;
    spread = a.spread;
    slices = a.slices;
    rows = content_rows;
    entries = content_entries;
    clean = sym (same_spare (content_in set) set content_holds) ∙ a.clean;
    unvalued = sym (same_valued (content_in set) set content_holds) ∙ a.unvalued;
    ties = sym (same_wrong (content_in set) set content_holds content_count_lem) ∙ a.ties;
    order = sym (ap wrong_order (same_ties (content_in set) set content_holds content_count_lem)) ∙ a.order;
    sides = sym (ap wrong_sides (same_ties (content_in set) set content_holds content_count_lem)) ∙ a.sides;
    fits = omega (arith, fits, own_length);
  }

pub content_written : (set : List ℕ) (room : ℕ) → first_of (set_tests set) ≡ 0 → length set ≤ room → set_write_reply (content_in set) room ≡ answer (length set)
content_written set room none fits =
    let a : Accepted set = accepted set none in
    write_answers (content_in set) room (writable_back (content_in set) room (content_writable set a room fits))
    ∙ ap answer (own_length set a)

pub file_of_content : (set : List ℕ) (k : SetContent) → ((i : ℕ) → get_or set i 0 < 256) → first_of (set_tests set) ≡ 0 → Holds k set → set_bytes k ≡ set
unfolding slice_bytes tie_bytes
file_of_content set k small none h =
    let a : Accepted set = accepted set none in
    let n = chains_of set in
    let b = row_bytes n in
    let c : content_chains k ≡ n = sym (same_chains k set h) in
    let s = slices_of set in
    let rows = 2 * b * s in
    let long : length set ≡ set_length n s (tie_count_of set) = a.long in
    let p1 : bytes_of 2 k.m ≡ take 2 (drop 0 set) = ap (bytes_of 2) (sym h.width) ∙ number_bytes set small 2 0 (omega arith) in
    let p2 : bytes_of 8 k.taps ≡ take 8 (drop taps_at set) = ap (bytes_of 8) (sym h.taps) ∙ number_bytes set small 8 taps_at (omega arith) in
    let pi : bytes_of 8 k.inversion ≡ take 8 (drop inversion_at set) =
    ap (bytes_of 8) (sym h.inversion) ∙ number_bytes set small 8 inversion_at (omega arith)
    in
    let p3 : bytes_of 2 (content_chains k) ≡ take 2 (drop chains_at set) = ap (bytes_of 2) c ∙ number_bytes set small 2 chains_at (omega arith) in
    let p4 : word_bytes k.spread ≡ take (8 * n) (drop spread_at set) =
    ap word_bytes (sym h.spread) ∙ words_bytes set small n spread_at (omega arith)
    in
    let p5 : bytes_of 2 k.s ≡ take 2 (drop (slices_at n) set) =
    ap (bytes_of 2) (sym h.slices) ∙ number_bytes set small 2 (slices_at n) (omega arith)
    in
    let front : length (take rows (rows_of set)) ≡ rows = length-take-le rows (rows_of set) (omega (arith, length-drop (rows_at n) set)) in
    let p6 : joined (slice_bytes (content_chains k) k.values k.marks) k.s ≡ take rows (drop (rows_at n) set) =
    joined_ext (slice_bytes (content_chains k) k.values k.marks) (λ t. take (2 * b) (drop (2 * b * t) (take rows (rows_of set)))) k.s
    (λ t l.
    ap₂ ◌++◌ (sym (h.value_rows t l)) (sym (h.mark_rows t l))
    ∙ slices.slice_of set t
    ∙ ap (λ (x : List ℕ). take (2 * b) (drop (2 * b * t) x)) (sym (take-append-drop rows (rows_of set)))
    ∙ part_of_front (take rows (rows_of set)) (drop rows (rows_of set)) (2 * b * t) (2 * b)
    (omega (arith, front, row_step (2 * b) t s (rw (sym h.slices) at l))))
    ∙ joined_back (2 * b) (take rows (rows_of set)) k.s (omega (arith, front, ap (λ (x : ℕ). 2 * b * x) h.slices))
    in
    let p7 : bytes_of 2 (content_count k) ≡ take 2 (drop (tie_count_at n s) set) =
    ap (bytes_of 2) (sym (same_count k set h long)) ∙ number_bytes set small 2 (tie_count_at n s) (omega arith)
    in
    let p8 : k.ties ≡ drop (ties_at n s) set =
    sym h.ties ∙ take_all (entry_bytes * tie_count_of set) (drop (ties_at n s) set) (omega (arith, length-drop (ties_at n s) set))
    in
    let j7 : take 2 (drop (tie_count_at n s) set) ++ drop (ties_at n s) set ≡ drop (tie_count_at n s) set = part_joins set (tie_count_at n s) 2 (ties_at n s) (omega arith) in
    let j6 : take rows (drop (rows_at n) set) ++ drop (tie_count_at n s) set ≡ drop (rows_at n) set =
    part_joins set (rows_at n) rows (tie_count_at n s) (omega arith)
    in
    let j5 : take 2 (drop (slices_at n) set) ++ drop (rows_at n) set ≡ drop (slices_at n) set = part_joins set (slices_at n) 2 (rows_at n) (omega arith) in
    let j4 : take (8 * n) (drop spread_at set) ++ drop (slices_at n) set ≡ drop spread_at set =
    part_joins set spread_at (8 * n) (slices_at n) (omega arith)
    in
    let j3 : take 2 (drop chains_at set) ++ drop spread_at set ≡ drop chains_at set = part_joins set chains_at 2 spread_at (omega arith) in
    let ji : take 8 (drop inversion_at set) ++ drop chains_at set ≡ drop inversion_at set = part_joins set inversion_at 8 chains_at (omega arith) in
    let j2 : take 8 (drop taps_at set) ++ drop inversion_at set ≡ drop taps_at set = part_joins set taps_at 8 inversion_at (omega arith) in
    let j1 : take 2 (drop 0 set) ++ drop taps_at set ≡ drop 0 set = part_joins set 0 2 taps_at (omega arith) in
    file_parts_lem k ∙ ap₂ ◌++◌ p1 (ap₂ ◌++◌ p2 (ap₂ ◌++◌ pi (ap₂ ◌++◌ p3 (ap₂ ◌++◌ p4 (ap₂ ◌++◌ p5 (ap₂ ◌++◌ p6 (ap₂ ◌++◌ p7 p8 ∙ j7) ∙ j6) ∙ j5) ∙ j4) ∙ j3) ∙ ji) ∙ j2) ∙ j1

pub set_of_content : (set : List ℕ) → ((i : ℕ) → get_or set i 0 < 256) → first_of (set_tests set) ≡ 0 → set_bytes (content_in set) ≡ set
set_of_content set small none = file_of_content set (content_in set) small none (content_holds set (accepted set none))

pub one_file : (one other : List ℕ) → ((i : ℕ) → get_or one i 0 < 256) → ((i : ℕ) → get_or other i 0 < 256)
    → first_of (set_tests one) ≡ 0 → first_of (set_tests other) ≡ 0
    → width_of one ≡ width_of other → taps_of one ≡ taps_of other → inversion_of one ≡ inversion_of other → spread_of one ≡ spread_of other → slices_of one ≡ slices_of other
    → ((t : ℕ) → t < slices_of other → value_row one t ≡ value_row other t)
    → ((t : ℕ) → t < slices_of other → mark_row one t ≡ mark_row other t)
    → tie_bytes one ≡ tie_bytes other → one ≡ other
one_file one other small small' none none' width taps inversion spread slices rows rows' ties =
    let own : Holds (content_in other) other = content_holds other (accepted other none') in
    let same : Holds (content_in other) one =
    record {
      width = width;
      taps = taps;
      inversion = inversion;
      spread = spread;
      slices = slices;
      value_rows = λ t l. rows t l ∙ own.value_rows t l;
      mark_rows = λ t l. rows' t l ∙ own.mark_rows t l;
      ties = ties;
    }
    in
    sym (file_of_content one (content_in other) small none same) ∙ set_of_content other small' none'

-- ---- the whole content as one value

pub content_back : (k : SetContent) (room n : ℕ) → set_write_reply k room ≡ answer n → content_in (set_bytes k) ≡ k
content_back k room n e = written_content k room (writable k room (answered k room n e).0)

pub output_back : (k : SetContent) (l : List ℕ) (n : ℕ) → set_write_reply k (length l) ≡ answer n
    → (first_of (set_tests (take n (lent (set_write_reply k (length l)) (set_bytes k) l))) ≡ 0)
    × (content_in (take n (lent (set_write_reply k (length l)) (set_bytes k) l)) ≡ k)
output_back k l n e =
    let file = written_output k l n e in
    let w : Writable k (length l) = writable k (length l) (answered k (length l) n e).0 in (
      ap (λ (set : List ℕ). first_of (set_tests set)) file ∙ accepted_back (set_bytes k) (written_accepted k (length l) w),
      ap content_in file ∙ content_back k (length l) n e,
    )

pub written_again : (set l : List ℕ) → ((i : ℕ) → get_or set i 0 < 256) → first_of (set_tests set) ≡ 0 → length set ≤ length l
    → (set_write_reply (content_in set) (length l) ≡ answer (length set))
    × (lent (set_write_reply (content_in set) (length l)) (set_bytes (content_in set)) l ≡ front set l)
written_again set l small none fits =
    let r : set_write_reply (content_in set) (length l) ≡ answer (length set) = content_written set (length l) none fits in
    (r, ap₂ (λ (x : Reply ℕ) (file : List ℕ). lent x file l) r (set_of_content set small none))

pub one_content : (one other : List ℕ) → ((i : ℕ) → get_or one i 0 < 256) → ((i : ℕ) → get_or other i 0 < 256)
    → first_of (set_tests one) ≡ 0 → first_of (set_tests other) ≡ 0 → content_in one ≡ content_in other → one ≡ other
one_content one other small small' none none' e = sym (set_of_content one small none) ∙ ap set_bytes e ∙ set_of_content other small' none'
