-- Each run of a cut set, put into a set file of its own, is planned with exactly the words that the cutting counted, at least k
-- (each_run_planned). Document 02, No. 5: "each leaving at least k words"; "Each run is later judged as a set of its own." Assumes nothing.
use mathlib.Core.Path.{◌≡◌, refl, sym, ap, ap₂, ◌∙◌}
use mathlib.Core.Bool.{Bool, true, false, cond, not, ◌&&◌}
use mathlib.Core.List.{List}
use Prim.Native.Nat.{ℕ, ◌+◌, ◌-◌, ◌≤◌, ◌<◌}
use native.Mathlib.Nat.{not-suc-le-zero}
use native.Mathlib.Omega.{arith}
use borrow.Author.Tests.{le-ltb, ltb-false, eq-eqb, ne_eqb}
use lib.Dec.{eqb, ltb}
use lib.ListN.{length}
use Rattle.word.specs.Some.{any_below}
use Rattle.word.specs.Reply.{answer, first_of}
use Rattle.word.proofs.SomeLaws.{any_below_none, any_below_false}
use Rattle.word.proofs.BoolLaws.{or_false, or_false_left}
use Rattle.word.proofs.ReplyLaws.{replied_answered}
use Rattle.combinations.specs.Combination.{member, rank, only_empty}
use Rattle.combinations.specs.Reduced.{reduced_list}
use Rattle.combinations.proofs.Theorems.{words_and_rank, only_empty_list}
use Rattle.numbers.proofs.JoinLaws.{joined_length, joined_row}
use Rattle.rows.specs.Row.{cell, row_bytes, spare_set}
use Rattle.rows.specs.Lists.{list_row}
use Rattle.ties.specs.Ties.{wrong_cells, wrong_order, wrong_sides}
use Rattle.register.specs.Circuit.{Circuit}
use Rattle.set_layout.specs.Layout.{width_of, chains_of, slices_of, circuit_of, value_row, mark_row, marks, ties_of, set_length}
use Rattle.set_layout.proofs.LayoutLaws.{spread_length}
use Rattle.set_layout.proofs.SliceLaws.{tie_bytes_length}
use Rattle.set_file.proofs.Laws.{Accepted, accepted, accepted_back, value_row_length, mark_row_length, value_row_clean, mark_row_clean}
use Rattle.set_content.specs.Content.{SetContent, content_chains, set_write_tests}
use Rattle.set_content.proofs.ContentLaws.{Writable, writable_back}
use Rattle.set_writer.specs.Writing.{set_write_reply}
use Rattle.set_writer.proofs.FileLaws.{set_bytes_length}
use Rattle.set_writer.proofs.RoundTrip.{Holds, written_holds, written_accepted}
use Rattle.signatures.specs.Columns.{columns_below}
use Rattle.signatures.specs.Sets.{given, columns_of}
use Rattle.signatures.proofs.ColumnLaws.{columns_ext}
use Rattle.signatures.proofs.SetLaws.{columns_of_within}
use Rattle.signatures.proofs.FreeLaws.{columns_free}
use Rattle.kept_words.specs.Working.{words_of, working_places}
use Rattle.planner.specs.Planning.{earlier_tests, plan_tests, word_parts_of, words_reply, parts_of, plan_reply}
use Rattle.planner.proofs.NumberLaws.{earlier_past_set, plan_later}
use Rattle.cutter.specs.Cutting.{words_left, longest_end, bad_share, RunOf, starts_of, CutParts, cut_reply}
use Rattle.cutter.proofs.Theorems.{cut_none, cut_run}
use Rattle.guarantee.specs.Runs.{run_content, run_file, RunPlanned}
use Rattle.guarantee.proofs.Untied.{untied_counts}

module _ (set : List ℕ) (whole : Accepted set) (a b : ℕ) (ordered : a ≤ b) (inside : b ≤ slices_of set) where
  abbrev content : SetContent
  content = run_content set a b

  own_chains : content_chains content ≡ chains_of set
  own_chains = spread_length set

  there : (t : ℕ) → t < b - a → a + t < slices_of set
  there t l = omega arith

  -- ---- the rows of the run

  values_long : (t : ℕ) → t < b - a → length (value_row set (a + t)) ≡ row_bytes (content_chains content)
  values_long t l = value_row_length set whole (a + t) (there t l) ∙ ap row_bytes (sym own_chains)

  marks_long : (t : ℕ) → t < b - a → length (mark_row set (a + t)) ≡ row_bytes (content_chains content)
  marks_long t l = mark_row_length set whole (a + t) (there t l) ∙ ap row_bytes (sym own_chains)

  value_row_lem : (t : ℕ) → t < b - a → list_row (content_chains content) content.values t ≡ value_row set (a + t)
  unfolding list_row
  value_row_lem t l = joined_row (row_bytes (content_chains content)) (λ t. value_row set (a + t)) (b - a) t values_long l

  mark_row_lem : (t : ℕ) → t < b - a → list_row (content_chains content) content.marks t ≡ mark_row set (a + t)
  unfolding list_row
  mark_row_lem t l = joined_row (row_bytes (content_chains content)) (λ t. mark_row set (a + t)) (b - a) t marks_long l

  run_writable : (room : ℕ) → set_length (content_chains content) (b - a) 0 ≤ room → Writable content room
  unfolding wrong_cells wrong_order wrong_sides
  run_writable room fits = record {
    width = whole.width;
    taps = whole.taps;
    inversion = whole.inversion;
    chains = rw own_chains whole.chains;
    spread = whole.spread;
    slices = omega (arith, whole.slices);
    rows =
        or_false _ _ (ap not (eq-eqb _ _ (joined_length (row_bytes (content_chains content)) (λ t. value_row set (a + t)) (b - a) values_long)))
        (ap not (eq-eqb _ _ (joined_length (row_bytes (content_chains content)) (λ t. mark_row set (a + t)) (b - a) marks_long)));
    clean =
        or_false _ _
        (any_below_none (b - a) _ (λ t l. ap₂ spare_set own_chains (value_row_lem t l) ∙ value_row_clean set whole (a + t) (there t l)))
        (any_below_none (b - a) _ (λ t l. ap₂ spare_set own_chains (mark_row_lem t l) ∙ mark_row_clean set whole (a + t) (there t l)));
    unvalued =
        any_below_none (b - a) _
        (λ t l.
        ap₂ (λ (v k : List ℕ). any_below (content_chains content) (λ c. eqb (cell v c) 1 && eqb (cell k c) 1)) (value_row_lem t l) (mark_row_lem t l)
        ∙ ap (λ (n : ℕ). any_below n (λ c. eqb (cell (value_row set (a + t)) c) 1 && eqb (cell (mark_row set (a + t)) c) 1)) own_chains
        ∙ any_below_false (slices_of set) (λ t. any_below (chains_of set) (λ c. eqb (cell (value_row set t) c) 1 && eqb (cell (mark_row set t) c) 1)) whole.unvalued (a + t) (there t l));
    entries = refl;
    ties = any_below_none 0 _ (λ i l. absurd (not-suc-le-zero l));
    order = any_below_none 0 _ (λ i l. absurd (not-suc-le-zero l));
    sides = any_below_none 0 _ (λ i l. absurd (not-suc-le-zero l));
    fits = fits;
  }

  abbrev enough_room : ℕ
  enough_room = set_length (content_chains content) (b - a) 0

  run_holds : Holds content (run_file set a b)
  unfolding run_file
  run_holds = written_holds content enough_room (run_writable enough_room (omega arith))

  run_accepted : Accepted (run_file set a b)
  unfolding run_file
  run_accepted = written_accepted content enough_room (run_writable enough_room (omega arith))

  run_length : length (run_file set a b) ≡ enough_room
  unfolding run_file
  run_length = set_bytes_length content (run_writable enough_room (omega arith)).rows (run_writable enough_room (omega arith)).entries

  run_written : (room : ℕ) → length (run_file set a b) ≤ room → set_write_reply content room ≡ answer (length (run_file set a b))
  unfolding set_write_reply
  run_written room fits =
      replied_answered (first_of (set_write_tests content room)) enough_room (writable_back content room (run_writable room (omega (arith, run_length))))
      ∙ ap answer (sym run_length)

  -- ---- its columns are those of the run alone

  run_circuit : circuit_of (run_file set a b) ≡ circuit_of set
  run_circuit = rw (run_holds.width, run_holds.taps, run_holds.inversion, run_holds.spread) refl

  -- it has no ties, so every unknown cell is free
  run_bare : (ties_of (run_file set a b)).count ≡ 0
  run_bare = omega (arith, tie_bytes_length (run_file set a b) run_accepted.long, ap length run_holds.ties)

  run_columns : columns_of (run_file set a b) ≡ columns_below (circuit_of set) (b - a) (λ t. marks set (a + t)) (b - a)
  unfolding columns_of
  run_columns =
      columns_free (given (run_file set a b)) run_bare
      ∙ ap₂ (λ (k : Circuit) (s : ℕ). columns_below k s (marks (run_file set a b)) s) run_circuit run_holds.slices
      ∙ columns_ext (circuit_of set) (b - a) (marks (run_file set a b)) (λ t. marks set (a + t)) (b - a)
      (λ t c l d. ap (λ (row : List ℕ). cell row c) (run_holds.mark_rows t l ∙ mark_row_lem t l))

  run_words : length (words_of (run_file set a b)) ≡ words_left (given set) a b
  unfolding words_of words_left columns_of
  run_words =
      let sum = words_and_rank (width_of (run_file set a b)) (columns_of (run_file set a b)) (columns_of_within (run_file set a b) run_accepted) in
      let same : rank (columns_of (run_file set a b)) ≡ rank (columns_below (circuit_of set) (b - a) (λ t. marks set (a + t)) (b - a)) = ap rank run_columns in
      let wide : width_of (run_file set a b) ≡ width_of set = run_holds.width in
      omega (arith, sum, same, wide)

  -- ---- planned

  module _ (some : 1 ≤ words_left (given set) a b) (w l : ℕ) (work : 64 ≤ w) (room : words_left (given set) a b ≤ l) where
    run_none : first_of (plan_tests (run_file set a b) w l) ≡ 0
    unfolding words_of columns_of
    run_none =
        let past : first_of (earlier_tests (run_file set a b) w) ≡ 0 =
        earlier_past_set (run_file set a b) w (accepted_back (run_file set a b) run_accepted)
        ∙ ap (λ (x : Bool). cond {A = ℕ} x 14 0) (le-ltb w (working_places (run_file set a b)) (omega (arith, work, (untied_counts (run_file set a b) run_bare).1)))
        in
        let count : length (reduced_list (width_of (run_file set a b)) (columns_of (run_file set a b))) ≡ words_left (given set) a b = run_words in
        let words : only_empty (width_of (run_file set a b)) (columns_of (run_file set a b)) ≡ false =
        only_empty_list (width_of (run_file set a b)) (columns_of (run_file set a b)) ∙ ne_eqb (length (reduced_list (width_of (run_file set a b)) (columns_of (run_file set a b)))) 0 (λ z. omega (arith, z, count))
        in
        let fits : ltb l (length (words_of (run_file set a b))) ≡ false = le-ltb l (length (words_of (run_file set a b))) (omega (arith, run_words)) in
        plan_later (run_file set a b) w l past ∙ ap₂ (λ (x y : Bool). cond {A = ℕ} x 17 (cond {A = ℕ} y 18 0)) words fits

    run_worded : words_reply (run_file set a b) w l ≡ answer (record { m = width_of set; q = words_left (given set) a b })
    unfolding words_reply
    run_worded =
        replied_answered (first_of (plan_tests (run_file set a b) w l)) (word_parts_of (run_file set a b)) run_none
        ∙ ap₂ (λ (m q : ℕ). answer (record { m = m; q = q })) run_holds.width run_words

    run_planned : plan_reply (run_file set a b) w l ≡ answer (parts_of (run_file set a b))
    unfolding plan_reply
    run_planned = replied_answered (first_of (plan_tests (run_file set a b) w l)) (parts_of (run_file set a b)) run_none

-- ---- a cut set

pub each_run_planned : (set : List ℕ) (k room : ℕ) (p : CutParts) → cut_reply set k room ≡ answer p → (a : ℕ) → member a (starts_of set k) ≡ true
    → RunPlanned set k a (longest_end (given set) k a)
unfolding bad_share
each_run_planned set k room p h a listed =
    let none = cut_none set k room p h in
    let whole : Accepted set = accepted set none.0 in
    let run : RunOf (given set) k a = cut_run set k room p h a listed in
    let least : 1 ≤ k = ltb-false k 1 (or_false_left (ltb k 1) (ltb (width_of set) k) none.1.0) in
    let ordered : a ≤ longest_end (given set) k a = omega (arith, run.some) in
    let some : 1 ≤ words_left (given set) a (longest_end (given set) k a) = omega (arith, run.enough) in
    record {
      written = λ r fits. run_written set whole a _ ordered run.within r fits;
      taken = accepted_back _ (run_accepted set whole a _ ordered run.within);
      words = run_words set whole a _ ordered run.within;
      enough = run.enough;
      worded = run_worded set whole a _ ordered run.within some;
      planned = run_planned set whole a _ ordered run.within some;
    }
