-- A portion of the columns: the columns of one row, whichever way they are made, and the start, the turn and the ends of the loop over the
-- slices. Assumes nothing.
use mathlib.Core.Path.{◌≡◌, refl, sym, ap, ap₂, ◌∙◌, subst}
use mathlib.Core.Bool.{cond}
use mathlib.Core.Logic.{◌⊎◌, inl, inr, ⊎_elim, dite}
use mathlib.Core.List.{List, ◌++◌, map, map-append, append_assoc, append-nil}
use Prim.Native.Nat.{ℕ, zero, suc, ◌+◌, ◌-◌, ◌*◌, ◌/◌, ◌%◌, ◌≤◌, ◌<◌, min}
use native.Mathlib.Decide.{ℕ_discrete}
use native.Mathlib.Omega.{arith}
use lib.Dec.{eqb}
use lib.ListN.{length, take, drop, get_or, length-append, length-drop, length-map, drop_of_length-le}
use lib.Seq.{take_at, drop_at, take_all, take-take, drop-length, take-append-le, drop-append-le, length-take-le, length_front, get_or-take}
use Rattle.numbers.proofs.JoinLaws.{joined_ext}
use Rattle.rows.specs.Row.{Cells, cell}
use Rattle.rows.specs.Marks.{listed, marked_words}
use Rattle.register.specs.Circuit.{Circuit, chains, advanced}
use Rattle.chains.proofs.Laws.{good_spread}
use Rattle.signatures.specs.Signature.{Response}
use Rattle.rows.specs.Lists.{cells_of}
use Rattle.rows.specs.declared.Rows.{Rows}
use Rattle.signatures.specs.Later.{later}
use Rattle.signatures.specs.Columns.{slice_columns, columns_below}
use Rattle.powers.specs.Powers.{from_powers}
use Rattle.powers.proofs.PowerLaws.{from_powers_lem, powers_part, later_add}
use Rattle.eight_clocks.specs.Eight.{looked_on}
use Rattle.eight_clocks.proofs.EightLaws.{looked_later, eights_on}
use Rattle.marked_words.specs.Fitting.{FittedIn}
use Rattle.marked_words.specs.declared.Fitted.{Fitted}
use Rattle.marked_rows.specs.Last.{last_marked}
use Rattle.marked_rows.proofs.LastLaws.{blank_cells}
use Rattle.swept_columns.proofs.FillLaws.{columns_skipped, later_words, later_words_lem, later_words_suc, later_words_get, first_words}
use Rattle.sparse_columns.proofs.SparseLaws.{map_chosen}
use Rattle.portions.specs.Portions.{columns_left, Way, swept, eights, sparse, Ready, RowLater, SliceDone, RowFits, PortionOf}
use Rattle.portions.specs.declared.Portion.{Portion}

-- ---- the columns that are left

module _ (k : Circuit) (s : ℕ) (u : Response) where
  pub left_all : (t : ℕ) → columns_left k s u t (chains k) ≡ columns_below k s u t
  unfolding columns_below
  left_all zero = refl
  left_all (suc t) = refl

  pub left_none : (t : ℕ) → columns_left k s u (suc t) 0 ≡ columns_below k s u t
  unfolding slice_columns
  left_none t = append-nil (columns_below k s u t)

-- ---- a row's columns

-- the words of the first chains of a list are those of the list
front_words : (ws : List ℕ) (x : Cells) (c n : ℕ) → n ≤ c → marked_words (take c ws) x n ≡ marked_words ws x n
front_words ws x c n h =
    joined_ext (λ d. listed (x d) (get_or (take c ws) d 0)) (λ d. listed (x d) (get_or ws d 0)) n
    (λ d l. ap (listed (x d)) (get_or-take c ws d 0 (omega arith)))

module _ (k : Circuit) (j : ℕ) (ps ws : List ℕ) where
  pub way_length : Way k j ps ws → length ws ≡ chains k
  way_length (swept none e) = ap length e ∙ length-map k.spread (later k j)
  way_length (eights many wide right e) = ap length e ∙ length-map k.spread (later k (8 * (j / 8)))
  way_length (sparse many right good e) = ap length e

  -- what was listed, us, and what was made of it, vs
  module _ (x : Cells) (c n : ℕ) (us vs : List ℕ) (inside : c ≤ chains k) (h : n ≤ c) (room : j + k.width ≤ 576)
      (split : marked_words (take c ws) x c ≡ marked_words (take c ws) x n ++ us) (made : RowLater ps j k.width us vs) where
    -- each word was made its chain's word by f
    made_by : (f : ℕ → ℕ) → ((d : ℕ) → f (get_or ws d 0) ≡ later k j (get_or k.spread d 0)) → vs ≡ map f us
        → marked_words (later_words k j k.spread) x c ≡ marked_words (later_words k j k.spread) x n ++ vs
    made_by f right e =
        sym (through c (omega arith)) ∙ ap (map f) split ∙ map-append f (marked_words (take c ws) x n) us
        ∙ ap₂ (λ (a b : List ℕ). a ++ b) (through n h) (sym e)
      where
        through : (i : ℕ) → i ≤ c → map f (marked_words (take c ws) x i) ≡ marked_words (later_words k j k.spread) x i
        through i l =
            map_chosen f (take c ws) (later_words k j k.spread) x i
            (λ d m. ap f (get_or-take c ws d 0 (omega arith)) ∙ right d ∙ sym (later_words_get k j k.spread d))

    pub row_made : Way k j ps ws → marked_words (later_words k j k.spread) x c ≡ marked_words (later_words k j k.spread) x n ++ vs
    row_made (swept none e) =
        let same : ws ≡ later_words k j k.spread = e ∙ sym (later_words_lem k j k.spread) in
        ap (λ (l : List ℕ). marked_words l x c) (sym same) ∙ sym (front_words ws x c c (omega arith)) ∙ split
        ∙ ap₂ (λ (a b : List ℕ). a ++ b) (front_words ws x c n h ∙ ap (λ (l : List ℕ). marked_words l x n) same) (sym (made.stays none))
    row_made (eights many wide right e) =
        let sum : 8 * (j / 8) + j % 8 ≡ j = omega arith in
        made_by (looked_on k.width ps (j % 8))
        (λ d.
        looked_later k wide ps right (j % 8) (get_or ws d 0) (omega arith)
        ∙ ap (later k (j % 8)) (ap (λ (y : List ℕ). get_or y d 0) (e ∙ sym (later_words_lem k (8 * (j / 8)) k.spread)) ∙ later_words_get k (8 * (j / 8)) k.spread d)
        ∙ sym (later_add k (8 * (j / 8)) (j % 8) (get_or k.spread d 0)) ∙ ap (λ (i : ℕ). later k i (get_or k.spread d 0)) sum)
        (made.looked many)
    row_made (sparse many right good e) =
        made_by (from_powers (take k.width (drop j ps)))
        (λ d.
        ap (λ (y : List ℕ). from_powers (take k.width (drop j ps)) (get_or y d 0)) e
        ∙ from_powers_lem k (take k.width (drop j ps)) j (get_or k.spread d 0) part.1 part.0 (good_spread k.width k.spread good d))
        (made.powered many room)
      where
        part : (length (take k.width (drop j ps)) ≡ k.width) × ((i : ℕ) → i < k.width → get_or (take k.width (drop j ps)) i 0 ≡ later k (i + j) 1)
        part = powers_part k ps j many (λ i l. right i (omega arith)) room

-- all the chains' words are passed on, by as many clocks as there are slices after the first t
pub words_passed : (m s t slices clocks : ℕ) (ps ws ws' : List ℕ) → slices ≡ s → clocks ≡ slices - t
    → (256 ≤ length ps → ws' ≡ cond (eqb (clocks % 8) 7) (map (looked_on m ps 8) ws) ws) → length ps ≡ 256
    → ws' ≡ cond (eqb ((s - t) % 8) 7) (map (looked_on m ps 8) ws) ws
words_passed m s t slices clocks ps ws ws' es ec e many =
    let same : clocks ≡ s - t = omega arith in
    e (omega arith) ∙ ap (λ (i : ℕ). cond (eqb (i % 8) 7) (map (looked_on m ps 8) ws) ws) same

-- ---- a row's list

-- the end of the list l, from `start` on, becomes that of part, and then vs
module _ (l part vs l₂ : List ℕ) (start : ℕ) (long : length part ≡ length l) (before : start ≤ length l) (kept : take start part ≡ take start l)
    (e : l₂ ≡ take start part ++ (vs ++ drop (length part - start) (drop start part))) where
  whole : l₂ ≡ take start part ++ vs
  whole =
      let past : length (drop start part) ≤ length part - start = omega (arith, length-drop start part) in
      e ∙ ap (λ (x : List ℕ). take start part ++ (vs ++ x)) (drop_of_length-le (drop start part) past) ∙ ap (λ (x : List ℕ). take start part ++ x) (append-nil vs)

  front_long : length (take start part) ≡ start
  front_long = length-take-le start part (omega arith)

  pub changed_kept : take start l₂ ≡ take start l
  changed_kept = ap (take start) whole ∙ take_at (take start part) vs start front_long ∙ kept

  pub changed_listed : drop start l₂ ≡ vs
  changed_listed = ap (drop start) whole ∙ drop_at (take start part) vs start front_long

  pub changed_long : length vs ≡ length (take (length part - start) (drop start part)) → length l₂ ≡ length l
  changed_long many =
      let same : take (length part - start) (drop start part) ≡ drop start part = take_all (length part - start) (drop start part) (omega (arith, length-drop start part)) in
      ap length whole ∙ length-append (take start part) vs ∙ omega (arith, front_long, many, ap length same, length-drop start part)

pub rest_whole : (part : List ℕ) (start : ℕ) → take (length part - start) (drop start part) ≡ drop start part
rest_whole part start = take_all (length part - start) (drop start part) (omega (arith, length-drop start part))

-- the row of slice t, of as many chains as there are words, listed and made the columns: ws₀ are the words, the first of ws
module _ (k : Circuit) (s : ℕ) (u : Response) (ps ws ws₀ : List ℕ) (t : ℕ) (ready : Ready k s (suc t) ps ws) (few : length ws₀ ≤ chains k)
    (first : ws₀ ≡ take (length ws₀) ws) (l part vs l₂ row : List ℕ) (clocks : ℕ) (r : Fitted) (er : cell row ≡ u t)
    (fit : FittedIn ws₀ (cell row) l part r) (ec : clocks ≡ s - suc t) (made : RowLater ps clocks k.width (take (length part - r.place) (drop r.place part)) vs)
    (e : l₂ ≡ take r.place part ++ (vs ++ drop (length part - r.place) (drop r.place part))) where
  pub row_columns : slice_columns k s u t (length ws₀) ≡ slice_columns k s u t r.chains ++ drop r.place l₂
  row_columns =
      let within : t < s = ready.inside in
      first_words k s u t (length ws₀) within few
      ∙ ap (λ (x : Cells). marked_words (later_words k (s - suc t) k.spread) x (length ws₀)) (sym er)
      ∙ row_made k (s - suc t) ps ws (cell row) (length ws₀) r.chains (drop r.place part) vs few fit.chains
      (omega (arith, ready.slices, ready.narrow))
      (ap (λ (x : List ℕ). marked_words x (cell row) (length ws₀)) (sym first) ∙ fit.listed ∙ ap (λ (x : List ℕ). marked_words x (cell row) r.chains ++ drop r.place part) first)
      (subst (λ (x : List ℕ). RowLater ps (s - suc t) k.width x vs) (rest_whole part r.place)
      (subst (λ (i : ℕ). RowLater ps i k.width (take (length part - r.place) (drop r.place part)) vs) ec made))
      ready.way
      ∙ ap₂ (λ (a b : List ℕ). a ++ b)
      (ap (λ (x : Cells). marked_words (later_words k (s - suc t) k.spread) x r.chains) er
      ∙ sym (first_words k s u t r.chains within (omega (arith, fit.chains, few))))
      (sym (changed_listed l part vs l₂ r.place fit.long fit.place fit.kept e))

-- .. of the slice before the t-th
pub row_before : (k : Circuit) (s : ℕ) (u : Response) (ps ws ws₀ : List ℕ) (t : ℕ) → 0 < t → Ready k s t ps ws → length ws₀ ≤ chains k → ws₀ ≡ take (length ws₀) ws
    → (l part vs l₂ row : List ℕ) (clocks : ℕ) (r : Fitted) → cell row ≡ u (t - 1)
    → FittedIn ws₀ (cell row) l part r → clocks ≡ s - t → RowLater ps clocks k.width (take (length part - r.place) (drop r.place part)) vs
    → l₂ ≡ take r.place part ++ (vs ++ drop (length part - r.place) (drop r.place part))
    → slice_columns k s u (t - 1) (length ws₀) ≡ slice_columns k s u (t - 1) r.chains ++ drop r.place l₂
row_before k s u ps ws ws₀ t h ready few first l part vs l₂ row clocks r er fit ec made e =
    let back_up : t ≡ suc (t - 1) = omega arith in
    row_columns k s u ps ws ws₀ (t - 1) (subst (λ (x : ℕ). Ready k s x ps ws) back_up ready) few first l part vs l₂ row clocks r er fit (omega arith) made e

-- ---- the loop over the slices

-- what the loop knows: the columns from those that are left on stand from `at` on, and the words are ready for those that are left
pub record Filling (k : Circuit) (s : ℕ) (u : Response) (ps l₀ : List ℕ) (t₀ c₀ : ℕ) (ws l : List ℕ) (at t c : ℕ) : Type 0 where
  pub ready : Ready k s t ps ws
  pub few : c ≤ chains k
  pub place : at ≤ length l₀
  pub long : length l ≡ length l₀
  pub listed : columns_left k s u t₀ c₀ ≡ columns_left k s u t c ++ drop at l
  pub kept : take at l ≡ take at l₀

module _ (k : Circuit) (s : ℕ) (u : Response) (ps l₀ : List ℕ) (t₀ c₀ : ℕ) where
  -- the columns that are left, by those of the last slice
  left_split : (t c n : ℕ) (vs : List ℕ) → 0 < t → slice_columns k s u (t - 1) c ≡ slice_columns k s u (t - 1) n ++ vs
      → columns_left k s u t c ≡ columns_left k s u t n ++ vs
  left_split t c n vs h split =
      let back_up : t ≡ suc (t - 1) = omega arith in
      ap (λ (x : ℕ). columns_left k s u x c) back_up ∙ ap (λ (x : List ℕ). columns_below k s u (t - 1) ++ x) split
      ∙ sym (append_assoc (columns_below k s u (t - 1)) (slice_columns k s u (t - 1) n) vs)
      ∙ ap (λ (x : ℕ). columns_left k s u x n ++ vs) (sym back_up)

  filling_starts : (ws : List ℕ) → Ready k s t₀ ps ws → c₀ ≤ chains k → Filling k s u ps l₀ t₀ c₀ ws l₀ (length l₀) t₀ c₀
  filling_starts ws r h = record {
    ready = r;
    few = h;
    place = omega arith;
    long = refl;
    listed = sym (ap (λ (x : List ℕ). columns_left k s u t₀ c₀ ++ x) (drop-length l₀) ∙ append-nil (columns_left k s u t₀ c₀));
    kept = refl;
  }

  -- no slice is left
  pub filling_none : (ws : List ℕ) → t₀ ≡ 0 → Ready k s t₀ ps ws → c₀ ≤ chains k → Filling k s u ps l₀ t₀ c₀ ws l₀ (length l₀) 0 c₀
  filling_none ws z r h = subst (λ (x : ℕ). Filling k s u ps l₀ t₀ c₀ ws l₀ (length l₀) x c₀) z (filling_starts ws r h)

  -- the first row
  pub filling_first : (ws part : List ℕ) (r : Fitted) (n : ℕ) → n ≡ c₀ → 0 < t₀ → Ready k s t₀ ps ws → n ≤ chains k → RowFits n l₀ part r → length part ≡ length l₀
      → slice_columns k s u (t₀ - 1) n ≡ slice_columns k s u (t₀ - 1) r.chains ++ drop r.place part
      → Filling k s u ps l₀ t₀ c₀ ws part r.place t₀ r.chains
  filling_first ws part r n e h ready few fit long split = record {
    ready = ready;
    few = omega (arith, fit.chains);
    place = fit.place;
    long = long;
    listed = ap (columns_left k s u t₀) (sym e) ∙ left_split t₀ n r.chains (drop r.place part) h split;
    kept = fit.kept;
  }

  -- a row is listed as far as there is room
  module _ (ws l part : List ℕ) (place t c : ℕ) (r : Fitted) (h : 0 < t) (f : Filling k s u ps l₀ t₀ c₀ ws l place t c)
      (fit : RowFits c (take place l) part r) (long : length part ≡ length (take place l))
      (split : slice_columns k s u (t - 1) c ≡ slice_columns k s u (t - 1) r.chains ++ drop r.place part) where
    inside : place ≤ length l
    inside = omega (arith, f.place, f.long)

    part_long : length part ≡ place
    part_long = long ∙ length-take-le place l inside

    early : r.place ≤ place
    early = omega (arith, fit.place, length-take-le place l inside)

    pub filling_row : Filling k s u ps l₀ t₀ c₀ ws (part ++ drop place l) r.place t r.chains
    filling_row = record {
      ready = f.ready;
      few = omega (arith, fit.chains, f.few);
      place = omega (arith, early, f.place);
      long = length_front l part place long ∙ f.long;
      listed =
          f.listed ∙ ap (λ (x : List ℕ). x ++ drop place l) (left_split t c r.chains (drop r.place part) h split)
          ∙ append_assoc (columns_left k s u t r.chains) (drop r.place part) (drop place l)
          ∙ ap (λ (x : List ℕ). columns_left k s u t r.chains ++ x) (sym (drop-append-le r.place part (drop place l) (omega (arith, part_long, early))));
      kept =
          take-append-le r.place part (drop place l) (omega (arith, part_long, early)) ∙ fit.kept ∙ take-take r.place place l early
          ∙ sym (take-take r.place place l early) ∙ ap (take r.place) f.kept ∙ take-take r.place place l₀ early;
    }

  -- the row is done
  filling_down : (ws ws' l : List ℕ) (place t : ℕ) → Filling k s u ps l₀ t₀ c₀ ws l place (suc t) 0
      → (length ps ≡ 0 → ws' ≡ map (advanced k.width k.taps) ws)
      → (length ps ≡ 256 → ws' ≡ cond (eqb ((s - suc t) % 8) 7) (map (looked_on k.width ps 8) ws) ws) → (length ps ≡ 576 → ws' ≡ ws)
      → Filling k s u ps l₀ t₀ c₀ ws' l place t (chains k)
  filling_down ws ws' l place t f step pass stay = record {
    ready = record {
      inside = omega (arith, f.ready.inside);
      slices = f.ready.slices;
      few = f.ready.few;
      narrow = f.ready.narrow;
      way = way_on f.ready.way;
    };
    few = omega arith;
    place = f.place;
    long = f.long;
    listed = f.listed ∙ ap (λ (x : List ℕ). x ++ drop place l) (left_none k s u t ∙ sym (left_all k s u t));
    kept = f.kept;
  }
    where
      more : suc (s - suc t) ≡ s - t
      more = omega (arith, f.ready.inside)

      way_on : Way k (s - suc t) ps ws → Way k (s - t) ps ws'
      way_on (swept none e) =
          swept none
          (step none
          ∙ ap (map (advanced k.width k.taps)) (e ∙ sym (later_words_lem k (s - suc t) k.spread))
          ∙ later_words_suc k (s - suc t) k.spread ∙ later_words_lem k (suc (s - suc t)) k.spread ∙ ap (λ (j : ℕ). map (later k j) k.spread) more)
      way_on (eights many wide right e) =
          eights many wide right
          (eights_on k wide ps right (s - suc t) k.spread ws ws' e (pass many) ∙ ap (λ (j : ℕ). map (later k (8 * (j / 8))) k.spread) more)
      way_on (sparse many right good e) = sparse many right good (stay many ∙ e)

  -- .. of a loop that counts down from t
  module _ (list : List ℕ) (rows : Rows) (ws ws' l : List ℕ) (place t c n r : ℕ) (eu : u ≡ cells_of list rows) (h : 0 < t) (z : c ≡ 0) (en : n ≡ chains k)
      (done : SliceDone k.width k.taps s list rows ps t ws ws' r) where
    back_up : t ≡ suc (t - 1)
    back_up = omega arith

    filling_goes : Filling k s u ps l₀ t₀ c₀ ws l place t c → Filling k s u ps l₀ t₀ c₀ ws' l place (t - 1) n
    filling_goes f =
        subst (λ (x : ℕ). Filling k s u ps l₀ t₀ c₀ ws' l place (t - 1) x) (sym en)
        (filling_down ws ws' l place (t - 1)
        (subst (λ (x : ℕ). Filling k s u ps l₀ t₀ c₀ ws l place x 0) back_up (subst (λ (x : ℕ). Filling k s u ps l₀ t₀ c₀ ws l place t x) z f))
        (λ e. (done.advances e).1)
        (λ e. (done.passes e).1 ∙ ap (λ (i : ℕ). cond (eqb ((s - i) % 8) 7) (map (looked_on k.width ps 8) ws) ws) back_up)
        (λ e. (done.skips e).1))

    -- slices without a marked cell are passed over, where there are powers
    filling_skips : Filling k s u ps l₀ t₀ c₀ ws' l place (t - 1) n → Filling k s u ps l₀ t₀ c₀ ws' l place r n
    filling_skips f = go f.ready.way
      where
        stays : r ≡ t - 1 → Filling k s u ps l₀ t₀ c₀ ws' l place r n
        stays e = subst (λ (x : ℕ). Filling k s u ps l₀ t₀ c₀ ws' l place x n) (sym e) f

        go : Way k (s - (t - 1)) ps ws' → Filling k s u ps l₀ t₀ c₀ ws' l place r n
        go (swept none e) = stays (done.advances none).0
        go (eights many wide right e) = stays (done.passes many).0
        go (sparse many right good e) =
            let last : r ≡ last_marked list rows (t - 1) = (done.skips many).0 in
            let all : (i : ℕ) → columns_left k s u i n ≡ columns_below k s u i = λ i. ap (columns_left k s u i) en ∙ left_all k s u i in record {
              ready = record {
                inside = omega (arith, f.ready.inside, done.down);
                slices = f.ready.slices;
                few = f.ready.few;
                narrow = f.ready.narrow;
                way = sparse many right good e;
              };
              few = f.few;
              place = f.place;
              long = f.long;
              listed =
                  f.listed
                  ∙ ap (λ (x : List ℕ). x ++ drop place l)
                  (all (t - 1)
                  ∙ columns_skipped k s u r (t - 1) done.down f.ready.few
                  (λ v d a b m. ap (λ (x : Response). x v d) eu ∙ blank_cells list rows (t - 1) v d (omega arith) b m)
                  ∙ sym (all r));
              kept = f.kept;
            }

    pub filling_gone : Filling k s u ps l₀ t₀ c₀ ws l place t c → Filling k s u ps l₀ t₀ c₀ ws' l place r n
    filling_gone f = filling_skips (filling_goes f)

  -- ---- the end

  pub filling_gives : (from : Portion) (ws l : List ℕ) (place t c : ℕ) → from.t ≡ t₀ → from.chains ≡ c₀ → Filling k s u ps l₀ t₀ c₀ ws l place t c
      → PortionOf k s u ps from ws l₀ l (record { t = t; chains = c; place = place })
  filling_gives from ws l place t c et ec f = record {
    chains = f.few;
    place = f.place;
    long = f.long;
    listed = ap₂ (columns_left k s u) et ec ∙ f.listed;
    kept = f.kept;
    ready = f.ready;
  }

-- the same number of slices by another name
pub ready_at : (k : Circuit) (s s' t : ℕ) (ps ws : List ℕ) → s' ≡ s → Ready k s t ps ws → Ready k s' t ps ws
ready_at k s s' t ps ws e r = subst (λ (x : ℕ). Ready k x t ps ws) (sym e) r

pub portion_at : (k : Circuit) (s s' : ℕ) (u : Response) (ps : List ℕ) (from : Portion) (ws l₀ l : List ℕ) (r : Portion) → s' ≡ s
    → PortionOf k s' u ps from ws l₀ l r → PortionOf k s u ps from ws l₀ l r
portion_at k s s' u ps from ws l₀ l r e p = subst (λ (x : ℕ). PortionOf k x u ps from ws l₀ l r) e p

pub columns_at : (k : Circuit) (s s' : ℕ) (u : Response) (t c n : ℕ) (vs : List ℕ) → s' ≡ s → slice_columns k s' u t c ≡ slice_columns k s' u t n ++ vs
    → slice_columns k s u t c ≡ slice_columns k s u t n ++ vs
columns_at k s s' u t c n vs e h = subst (λ (x : ℕ). slice_columns k x u t c ≡ slice_columns k x u t n ++ vs) e h

-- the chains that are left are no more than there are words
pub chains_same : (k : Circuit) (s t : ℕ) (ps ws : List ℕ) (n c : ℕ) → Ready k s t ps ws → n ≤ chains k → c ≡ min n (length ws) → n ≡ c
chains_same k s t ps ws n c r h e = omega (arith, way_length k (s - t) ps ws r.way)

-- ---- something is done in every portion

-- after a row: with at most 256 words no more cells are left than there were, and with 64 places fewer, but where the row is done
pub Moved : ℕ → ℕ → ℕ → ℕ → ℕ → ℕ → Type 0
Moved n room t₀ c₀ t c =
    n ≤ 256 → (257 * t + c ≤ 257 * t₀ + c₀) × (64 ≤ room → (c ≡ 0) ⊎ (257 * t + c < 257 * t₀ + c₀))

module _ (n t₀ c₀ : ℕ) where
  pub moved_first : (l part : List ℕ) (r : Fitted) (m : ℕ) → m ≡ c₀ → RowFits m l part r → Moved n (length l) t₀ c₀ t₀ r.chains
  unfolding Moved
  moved_first l part r m e fit few = (
    omega (arith, fit.chains),
    (λ wide.
        dite (ℕ_discrete r.chains 0) (λ (z : r.chains ≡ 0). inl z)
        (λ (d : r.chains ≡ 0 → ⊥). let there : 0 < m = omega (arith, fit.chains, d) in inr (omega (arith, fit.some wide there)))),
  )

  module _ (room t c : ℕ) (m : Moved n room t₀ c₀ t c) where
    -- the slice before it, with all its chains
    pub moved_down : 0 < t → n ≤ 256 → 257 * (t - 1) + n < 257 * t₀ + c₀
    unfolding Moved
    moved_down h few = omega (arith, (m few).0)

    pub moved_next : (l part : List ℕ) (r : Fitted) (i j : ℕ) → i ≡ n → 0 < t → j ≤ t - 1 → RowFits i l part r → Moved n room t₀ c₀ j r.chains
    unfolding Moved
    moved_next l part r i j e h early fit few =
        let less : 257 * j + r.chains < 257 * t₀ + c₀ = omega (arith, moved_down h few, fit.chains) in
        (omega arith, (λ wide. inr less))

    pub moved_less : n ≤ 256 → 64 ≤ room → (c ≡ 0 → ⊥) → 257 * t + c < 257 * t₀ + c₀
    unfolding Moved
    moved_less few wide some =
        ⊎_elim (λ (z : c ≡ 0). absurd (some z)) (λ (z : 257 * t + c < 257 * t₀ + c₀). z) ((m few).1 wide)
