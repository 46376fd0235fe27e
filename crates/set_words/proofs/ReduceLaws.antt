-- The work on portions: where it starts, what a portion does, and its ends. Assumes nothing.
use mathlib.Core.Path.{◌≡◌, refl, sym, ap, ◌∙◌, subst}
use mathlib.Core.Bool.{true, false}
use mathlib.Core.List.{List, [], ◌++◌, map, append_assoc, append-nil}
use Prim.Native.Nat.{ℕ, zero, suc, ◌+◌, ◌-◌, ◌*◌, ◌/◌, ◌^◌, ◌≤◌, ◌<◌, min}
use native.Mathlib.Omega.{arith}
use lib.ListN.{length, take, drop, get_or, length-drop, length-take, drop_of_length-le}
use lib.Seq.{take_at, take_all, length-take-le}
use Rattle.word.specs.Zeros.{zeros, filled}
use Rattle.combinations.specs.Combination.{x_free}
use Rattle.combinations.specs.Reduced.{reduced_list}
use Rattle.combinations.specs.Step.{steps, units}
use Rattle.combinations.proofs.Portions.{without_columns, portion_before, steps_most}
use Rattle.parity_table.specs.Table.{ParityTable, table_run}
use Rattle.parity_table.proofs.SkipLaws.{table_run_from, next_skipped}
use Rattle.combinations.proofs.StepLaws.{steps_none, steps_append, step_same}
use Rattle.numbers.proofs.PartLaws.{take_limit}
use Rattle.chains.specs.Driven.{bad_spread}
use Rattle.register.specs.Circuit.{Circuit, chains}
use Rattle.rows.specs.Marks.{listed}
use Rattle.signatures.specs.Signature.{Response, column}
use Rattle.signatures.specs.Later.{later}
use Rattle.signatures.specs.Columns.{slice_columns, columns_below}
use Rattle.signatures.proofs.ColumnLaws.{column_closed}
use Rattle.powers.proofs.PowerLaws.{later_add}
use Rattle.eight_clocks.specs.Eight.{EightOn}
use Rattle.swept_columns.proofs.FillLaws.{later_words, later_words_lem, later_words_none, later_words_get}
use Rattle.portions.specs.Portions.{columns_left, Way, swept, eights, sparse, PortionOf}
use Rattle.portions.specs.declared.Portion.{Portion}
use Rattle.portions.proofs.PortionLaws.{left_all, way_length}
use Rattle.set_words.specs.Reducing.{Reduced, Done}

-- the columns from place i of the list l on went through the elimination: the words that are left stand at the front of the list that
-- they were in
pub front_words : (l h h' : List ℕ) (i left : ℕ) → left ≡ length (steps (take (length l - i) (drop i l)) h)
    → h' ≡ filled (steps (take (length l - i) (drop i l)) h) (length h) → take left h' ≡ steps (drop i l) h
front_words l h h' i left e eh =
    let all : take (length l - i) (drop i l) ≡ drop i l = take_all (length l - i) (drop i l) (omega (arith, length-drop i l)) in
    ap (take left) eh
    ∙ take_at (steps (take (length l - i) (drop i l)) h) (zeros (length h - length (steps (take (length l - i) (drop i l)) h))) left (sym e)
    ∙ ap (λ (x : List ℕ). steps x h) all

-- the columns before place `odd` were looked up in the words' own table, and are even with them
module _ (h table l : List ℕ) (place odd : ℕ) (few : length h ≤ 64) (right : ParityTable (take 64 h) table) (small : (i : ℕ) → get_or l i 0 < 2 ^ 64)
    (e : odd ≡ place + table_run table (drop place l)) where
  pub passed_over : steps (drop odd l) h ≡ steps (drop place l) h
  passed_over = (next_skipped h l place odd few (table_run_from (take 64 h) table l place odd right small e)).1

  pub all_passed : length l ≤ odd → h ≡ steps (drop place l) h
  unfolding steps
  all_passed past = ap (λ (x : List ℕ). steps x h) (sym (drop_of_length-le l past)) ∙ passed_over

pub fewer_words : (cs h : List ℕ) (left : ℕ) → left ≡ length (steps cs h) → left ≤ length h
fewer_words cs h left e = omega (arith, steps_most cs h)

module _ (k : Circuit) (s : ℕ) (u : Response) (m : ℕ) (ps : List ℕ) where
  -- a portion, whose columns made the words h into h'
  pub reduced_portion : (from r : Portion) (ws ws' h h' l l' : List ℕ) → Reduced k s u m ps from.t from.chains ws h
      → PortionOf k s u ps from ws' l l' r → h' ≡ steps (drop r.place l') h → Reduced k s u m ps r.t r.chains ws' h'
  reduced_portion from r ws ws' h h' l l' so_far p e = record {
    ready = p.ready;
    few = p.chains;
    columns = drop r.place l' ++ so_far.columns;
    split =
        so_far.split ∙ ap (λ (x : List ℕ). x ++ so_far.columns) p.listed
        ∙ append_assoc (columns_left k s u r.t r.chains) (drop r.place l') so_far.columns;
    words = e ∙ ap (steps (drop r.place l')) so_far.words ∙ sym (portion_before m (drop r.place l') so_far.columns);
  }

  -- the same words and slices, by other names
  pub reduced_alike : (t t' c : ℕ) (ws h h' : List ℕ) → t' ≡ t → h' ≡ h → Reduced k s u m ps t c ws h → Reduced k s u m ps t' c ws h'
  reduced_alike t t' c ws h h' et e so_far =
      subst (λ (x : ℕ). Reduced k s u m ps x c ws h') (sym et) (subst (Reduced k s u m ps t c ws) (sym e) so_far)

  whole : (t c : ℕ) (ws h : List ℕ) → Reduced k s u m ps t c ws h → reduced_list m (columns_below k s u s) ≡ steps (columns_left k s u t c) h
  whole t c ws h so_far =
      ap (reduced_list m) so_far.split ∙ portion_before m (columns_left k s u t c) so_far.columns
      ∙ ap (steps (columns_left k s u t c)) (sym so_far.words)

  -- no word is left, so none will be
  pub done_early : (t c : ℕ) (ws l : List ℕ) (left : ℕ) → left ≡ 0 → Reduced k s u m ps t c ws (take left l) → Done k s u m 0 l
  done_early t c ws l left z so_far =
      let none : reduced_list m (columns_below k s u s) ≡ [] =
      whole t c ws (take left l) so_far ∙ ap (λ (i : ℕ). steps (columns_left k s u t c) (take i l)) z ∙ steps_none (columns_left k s u t c)
      in (ap length (sym none), sym none)

  -- no column is left
  pub done_all : (t c : ℕ) (ws l : List ℕ) (left : ℕ) → t ≡ 0 → left ≤ length l → Reduced k s u m ps t c ws (take left l) → Done k s u m left l
  unfolding steps
  done_all t c ws l left z h so_far =
      let all : take left l ≡ reduced_list m (columns_below k s u s) =
      sym (whole t c ws (take left l) so_far ∙ ap (λ (i : ℕ). steps (columns_left k s u i c) (take left l)) z)
      in (sym (length-take-le left l h) ∙ ap length all, all)

-- ---- columns that change nothing

-- the words h are even with the chains' words ws of the cells that are left, any number of clocks later
module _ (k : Circuit) (s : ℕ) (u : Response) (ps : List ℕ) (t : ℕ) (ws h : List ℕ) (inside : t ≤ s) (way : Way k (s - t) ps ws)
    (even : (i j c : ℕ) → j < t → c < length ws → 0 < u j c → x_free h (later k i (get_or ws c 0)) ≡ true) where
  -- where the words are the spread words some clocks later, no more than the slices after those that are left
  word_on : (n : ℕ) → n ≤ s - t → ws ≡ map (later k n) k.spread → (j c : ℕ) → j < t → 0 < u j c → c < length ws
      → x_free h (later k (s - 1 - j) (get_or k.spread c 0)) ≡ true
  word_on n few e j c hj marked hc =
      let split : s - 1 - j ≡ n + (s - 1 - j - n) = omega arith in
      let now : get_or ws c 0 ≡ later k n (get_or k.spread c 0) =
      ap (λ (l : List ℕ). get_or l c 0) (e ∙ sym (later_words_lem k n k.spread)) ∙ later_words_get k n k.spread c
      in
      ap (x_free h)
      (ap (λ (i : ℕ). later k i (get_or k.spread c 0)) split ∙ later_add k n (s - 1 - j - n) (get_or k.spread c 0)
      ∙ ap (later k (s - 1 - j - n)) (sym now))
      ∙ even (s - 1 - j - n) j c hj hc marked

  -- a chain's word of the columns that are left is one of those
  word_later : Way k (s - t) ps ws → (j c : ℕ) → j < t → 0 < u j c → c < chains k → x_free h (later k (s - 1 - j) (get_or k.spread c 0)) ≡ true
  word_later (swept none e) j c hj marked hc =
      word_on (s - t) (omega arith) e j c hj marked (omega (arith, way_length k (s - t) ps ws (swept none e)))
  word_later (eights many wide right e) j c hj marked hc =
      word_on (8 * ((s - t) / 8)) (omega arith) e j c hj marked (omega (arith, way_length k (s - t) ps ws (eights many wide right e)))
  word_later (sparse many right good e) j c hj marked hc =
      ap (λ (l : List ℕ). x_free h (later k (s - 1 - j) (get_or l c 0))) (sym e)
      ∙ even (s - 1 - j) j c hj (omega (arith, ap length e)) marked

  one_stays : (d w : ℕ) → (0 < d → x_free h w ≡ true) → steps (listed d w) h ≡ h
  unfolding steps
  one_stays zero w e = refl
  one_stays (suc d) w e = step_same w h (e (omega arith))

  slice_stays : (j n : ℕ) → j < t → n ≤ chains k → steps (slice_columns k s u j n) h ≡ h
  unfolding slice_columns steps
  slice_stays j zero hj hn = refl
  slice_stays j (suc n) hj hn =
      steps_append (slice_columns k s u j n) (listed (u j n) (column k s j n)) h
      ∙ ap (steps (listed (u j n) (column k s j n))) (slice_stays j n hj (omega arith))
      ∙ one_stays (u j n) (column k s j n)
      (λ marked. ap (x_free h) (column_closed k s j n (omega arith) (omega arith)) ∙ word_later way j n hj marked (omega arith))

  below_stays : (j : ℕ) → j ≤ t → steps (columns_below k s u j) h ≡ h
  unfolding columns_below steps
  below_stays zero hj = refl
  below_stays (suc j) hj =
      steps_append (columns_below k s u j) (slice_columns k s u j (chains k)) h
      ∙ ap (steps (slice_columns k s u j (chains k))) (below_stays j (omega arith)) ∙ slice_stays j (chains k) (omega arith) (omega arith)

  left_stays : (i c : ℕ) → i ≤ t → c ≤ chains k → steps (columns_left k s u i c) h ≡ h
  unfolding steps
  left_stays zero c hi hc = refl
  left_stays (suc i) c hi hc =
      steps_append (columns_below k s u i) (slice_columns k s u i c) h
      ∙ ap (steps (slice_columns k s u i c)) (below_stays i (omega arith)) ∙ slice_stays i c (omega arith) hc

pub done_settled : (k : Circuit) (s : ℕ) (u : Response) (m : ℕ) (ps : List ℕ) (t c : ℕ) (ws l : List ℕ) (left : ℕ)
    → ((i j c : ℕ) → j < t → c < length ws → 0 < u j c → x_free (take left l) (later k i (get_or ws c 0)) ≡ true) → left ≤ length l
    → Reduced k s u m ps t c ws (take left l) → Done k s u m left l
done_settled k s u m ps t c ws l left even h so_far =
    let ready = so_far.ready in
    let all : take left l ≡ reduced_list m (columns_below k s u s) =
    sym (whole k s u m ps t c ws (take left l) so_far
    ∙ left_stays k s u ps t ws (take left l) ready.inside ready.way even t c (omega arith) so_far.few)
    in (sym (length-take-le left l h) ∙ ap length all, all)

-- ---- the start

module _ (k : Circuit) (s : ℕ) (u : Response) (m : ℕ) (ps ws h : List ℕ) (slices : s ≤ 512) (few : chains k ≤ 256) (narrow : k.width ≤ 64)
    (words : ws ≡ k.spread) (units-there : h ≡ units m) where
  starts : Way k (s - s) ps ws → Reduced k s u m ps s (length ws) ws h
  starts way = record {
    ready = record { inside = omega arith; slices = slices; few = few; narrow = narrow; way = way };
    few = omega (arith, ap length words);
    columns = [];
    split =
        sym (left_all k s u s) ∙ ap (columns_left k s u s) (sym (ap length words)) ∙ sym (append-nil (columns_left k s u s (length ws)));
    words = units-there ∙ without_columns m;
  }

  -- all the chains' words are advanced together
  pub starts_swept : length ps ≡ 0 → Reduced k s u m ps s (length ws) ws h
  starts_swept none =
      let now : s - s ≡ 0 = omega arith in
      starts (swept none (words ∙ sym (later_words_none k k.spread) ∙ ap (λ (j : ℕ). later_words k j k.spread) (sym now) ∙ later_words_lem k (s - s) k.spread))

  -- .. by 8 clocks for every eighth slice
  pub starts_eights : length ps ≡ 256 → 8 ≤ k.width → EightOn k ps → Reduced k s u m ps s (length ws) ws h
  starts_eights many wide right =
      let now : 8 * ((s - s) / 8) ≡ 0 = omega arith in
      starts
      (eights many wide right
      (words ∙ sym (later_words_none k k.spread) ∙ ap (λ (j : ℕ). later_words k j k.spread) (sym now) ∙ later_words_lem k (8 * ((s - s) / 8)) k.spread))

  -- each column is made by the powers of the register
  pub starts_sparse : length ps ≡ 576 → ((i : ℕ) → i < 576 → get_or ps i 0 ≡ later k i 1) → bad_spread k.width k.spread ≡ false
      → Reduced k s u m ps s (length ws) ws h
  starts_sparse many right good = starts (sparse many right good words)

-- the first chains' words of a taken set, with the limit on chains
pub limited_words : (n chains : ℕ) (spread words : List ℕ) → chains ≡ min n 256 → (words ≡ spread) × (length words ≡ 256) → take chains words ≡ take n spread
limited_words n chains spread words ec e = take_limit words n chains (ec ∙ ap (min n) (sym e.1)) ∙ ap (take n) e.0

pub limited_few : (n : ℕ) (spread words : List ℕ) → (words ≡ spread) × (length words ≡ 256) → length (take n spread) ≤ 256
limited_few n spread words e = omega (arith, length-take n spread, ap length e.0, e.1)
