-- The columns of all slices by the powers of the register, written from the end: the words of a slice's marked chains are written and
-- then advanced where they stand. Assumes nothing.
use mathlib.Core.Path.{◌≡◌, refl, sym, ap, ap₂, ◌∙◌}
use mathlib.Core.Bool.{false}
use mathlib.Core.List.{List, [], ◌∷◌, ◌++◌, map, map-append, append_assoc, append-nil}
use Prim.Native.Nat.{ℕ, zero, suc, ◌+◌, ◌-◌, ◌*◌, ◌≤◌, ◌<◌, min}
use native.Mathlib.Nat.{mul-le-mul_left, mul-le-mul_right}
use native.Mathlib.Omega.{arith}
use borrow.Author.Tests.{le-ltb}
use lib.Dec.{ltb}
use lib.ListN.{length, take, drop, get_or, length-map, length-drop, length-take, drop_of_length-le}
use lib.Seq.{take_all, drop-drop, take_at, drop_at, take-append-le, drop-append-le, length-take-le}
use Rattle.numbers.specs.Joined.{joined}
use Rattle.rows.specs.Row.{cell}
use Rattle.rows.specs.Lists.{cells_of}
use Rattle.rows.specs.declared.Rows.{Rows}
use Rattle.register.specs.Circuit.{Circuit, circuit, chains}
use Rattle.marked_rows.specs.Last.{last_marked}
use Rattle.marked_rows.proofs.LastLaws.{last_le, blank_cells}
use Rattle.chains.specs.Driven.{bad_spread}
use Rattle.chains.proofs.Laws.{good_spread}
use Rattle.signatures.specs.Signature.{Response}
use Rattle.signatures.specs.Later.{later}
use Rattle.rows.specs.Marks.{listed}
use Rattle.signatures.specs.Columns.{columns_below}
use Rattle.rows.specs.Marks.{marked_words}
use Rattle.marked_words.specs.Back.{back}
use Rattle.powers.specs.Powers.{from_powers}
use Rattle.sparse_columns.specs.Cost.{ones_pay}
use Rattle.numbers.proofs.PartLaws.{take_limit}
use Rattle.marked_words.proofs.BackLaws.{back_length}
use Rattle.powers.proofs.PowerLaws.{from_powers_lem, powers_part, later_same}
use Rattle.swept_columns.proofs.FillLaws.{later_words, later_words_none, later_words_get, later_words_length, later_words_suc, Filled, filled_inside, filled_room, filled_starts, filled_skips, filled_down, filled_ends}

-- ---- words changed where they stand

map_drop : (f : ℕ → ℕ) (i : ℕ) (l : List ℕ) → map f (drop i l) ≡ drop i (map f l)
map_drop f zero l = refl
map_drop f (suc i) [] = refl
map_drop f (suc i) (x ∷ l) = map_drop f i l

map_listed : (f : ℕ → ℕ) (d w : ℕ) → map f (listed d w) ≡ listed d (f w)
map_listed f zero w = refl
map_listed f (suc d) w = refl

pub map_chosen : (f : ℕ → ℕ) (ws vs : List ℕ) (x : ℕ → ℕ) (n : ℕ) → ((c : ℕ) → c < n → f (get_or ws c 0) ≡ get_or vs c 0)
    → map f (marked_words ws x n) ≡ marked_words vs x n
unfolding joined
map_chosen f ws vs x zero h = refl
map_chosen f ws vs x (suc n) h =
    map-append f (marked_words ws x n) (listed (x n) (get_or ws n 0))
    ∙ ap₂ (λ (a b : List ℕ). a ++ b) (map_chosen f ws vs x n (λ c l. h c (omega arith))) (map_listed f (x n) (get_or ws n 0) ∙ ap (listed (x n)) (h n (omega arith)))

-- the list us is written over the end of l, and then what stands there is changed by f
module _ (f : ℕ → ℕ) (us l : List ℕ) (start : ℕ) (e : start ≡ length l - length us) where
  back_kept : take start (back us l) ≡ take start l
  unfolding back
  back_kept =
      ap (λ (i : ℕ). take start (take i l ++ drop (length us - length l) us)) (sym e)
      ∙ take_at (take start l) (drop (length us - length l) us) start (length-take-le start l (omega arith))

  back_written : drop start (back us l) ≡ drop (length us - length l) us
  unfolding back
  back_written =
      ap (λ (i : ℕ). drop start (take i l ++ drop (length us - length l) us)) (sym e)
      ∙ drop_at (take start l) (drop (length us - length l) us) start (length-take-le start l (omega arith))

  pub back_changed : take start (back us l) ++ map f (drop start (back us l)) ≡ back (map f us) l
  unfolding back
  back_changed =
      ap₂ (λ (x y : List ℕ). x ++ y) back_kept (ap (map f) back_written ∙ map_drop f (length us - length l) us)
      ∙ ap₂ (λ (i j : ℕ). take i l ++ drop j (map f us)) (e ∙ ap (λ (i : ℕ). length l - i) (sym (length-map us f)))
      (ap (λ (i : ℕ). i - length l) (sym (length-map us f)))

-- .. as a part from `place` on is lent, to be changed, of a list of length n
pub end_changed : (f : ℕ → ℕ) (us l l' vs : List ℕ) (place n : ℕ) → place ≡ length l - length us → l' ≡ back us l → n ≡ length l'
    → vs ≡ map f (take (n - place) (drop place l')) → take place l' ++ (vs ++ drop (n - place) (drop place l')) ≡ back (map f us) l
end_changed f us l l' vs place n ep el en ev =
    let past : length (drop place l') ≤ n - place = omega (arith, length-drop place l') in
    let all : take (n - place) (drop place l') ≡ drop place l' = take_all (n - place) (drop place l') past in
    ap (λ (x : List ℕ). take place l' ++ (vs ++ x)) (drop_of_length-le (drop place l') past)
    ∙ ap (λ (x : List ℕ). take place l' ++ x) (append-nil vs ∙ ev ∙ ap (map f) all)
    ∙ ap (λ (x : List ℕ). take place x ++ map f (drop place x)) el
    ∙ back_changed f us l place ep

-- .. where l is the first part of a list
module _ (f : ℕ → ℕ) (us l : List ℕ) (place start : ℕ) (h : place ≤ length l) (e : start ≡ length (take place l) - length us) where
  long : length (take place l) ≡ place
  long = length-take-le place l h

  back_long : length (back us (take place l)) ≡ place
  back_long = back_length us (take place l) ∙ long

  part_changed : (l₁ vs l₂ : List ℕ) → l₁ ≡ back us (take place l) ++ drop place l → vs ≡ map f (take (place - start) (drop start l₁))
      → l₂ ≡ take start l₁ ++ vs ++ drop place l₁ → l₂ ≡ back (map f us) (take place l) ++ drop place l
  part_changed l₁ vs l₂ e₁ ev e₂ =
      e₂
      ∙ ap₂ (λ (x y : List ℕ). x ++ y) (ap₂ (λ (x y : List ℕ). x ++ y) kept (ev ∙ ap (map f) written) ∙ back_changed f us (take place l) start e) after
    where
      fits : start ≤ length (back us (take place l))
      fits = omega (arith, long, back_long, e)

      kept : take start l₁ ≡ take start (back us (take place l))
      kept = ap (take start) e₁ ∙ take-append-le start (back us (take place l)) (drop place l) fits

      written : take (place - start) (drop start l₁) ≡ drop start (back us (take place l))
      written =
          ap (λ (x : List ℕ). take (place - start) (drop start x)) e₁
          ∙ ap (take (place - start)) (drop-append-le start (back us (take place l)) (drop place l) fits)
          ∙ take_at (drop start (back us (take place l))) (drop place l) (place - start)
          (length-drop start (back us (take place l)) ∙ ap (λ (x : ℕ). x - start) back_long)

      after : drop place l₁ ≡ drop place l
      after = ap (drop place) e₁ ∙ drop_at (back us (take place l)) (drop place l) place back_long

-- ---- the loop over the slices

module _ (k : Circuit) (s : ℕ) (u : Response) where
  -- what the loop knows: the columns of the slices from t on stand at the list's end, and `place` places before them
  pub Sparse : List ℕ → List ℕ → ℕ → ℕ → Type 0
  Sparse l₀ l place t = Filled k s u l₀ l place t (later_words k (s - t) k.spread)

  pub sparse_room : (l₀ l : List ℕ) (place t : ℕ) → Sparse l₀ l place t → (length l ≡ length l₀) × (place ≤ length l)
  unfolding Sparse
  sparse_room l₀ l place t f =
      let room = filled_room k s u l₀ l (later_words k (s - t) k.spread) place t f in (room.0, room.1)

  pub sparse_starts : (l : List ℕ) (t : ℕ) → t ≡ s → Sparse l l (length l) t
  unfolding Sparse
  sparse_starts l t e =
      let none : s - t ≡ 0 = omega arith in
      filled_starts k s u l (later_words k (s - t) k.spread) t e
      (ap (λ (j : ℕ). later_words k j k.spread) none ∙ later_words_none k k.spread)

  module _ (ps : List ℕ) (j : ℕ) (wide : length ps ≡ k.width) (right : (i : ℕ) → i < k.width → get_or ps i 0 ≡ later k (i + j) 1)
      (good : bad_spread k.width k.spread ≡ false) (row : List ℕ) where
    us : List ℕ
    us = marked_words k.spread (cell row) (length k.spread)

    words : map (from_powers ps) us ≡ marked_words (later_words k j k.spread) (cell row) (length (later_words k j k.spread))
    unfolding us
    words =
        map_chosen (from_powers ps) k.spread (later_words k j k.spread) (cell row) (length k.spread)
        (λ c l.
        from_powers_lem k ps j (get_or k.spread c 0) right wide (good_spread k.width k.spread good c)
        ∙ sym (later_words_get k j k.spread c))
        ∙ ap (marked_words (later_words k j k.spread) (cell row)) (sym (later_words_length k j k.spread))

    pub sparse_turns : (l₀ l l₁ vs l₂ : List ℕ) (place start t : ℕ) → 0 < t → j ≡ s - t → Sparse l₀ l place t → cell row ≡ u (t - 1)
        → start ≡ length (take place l) - length (marked_words k.spread (cell row) (length k.spread))
        → l₁ ≡ back (marked_words k.spread (cell row) (length k.spread)) (take place l) ++ drop place l
        → vs ≡ map (from_powers ps) (take (place - start) (drop start l₁)) → l₂ ≡ take start l₁ ++ vs ++ drop place l₁
        → Sparse l₀ l₂ start (t - 1)
    unfolding Sparse us
    sparse_turns l₀ l l₁ vs l₂ place start t h ej f er es e₁ ev e₂ =
        filled_down k s u l₀ l l₂ (later_words k (s - t) k.spread) (later_words k (s - (t - 1)) k.spread) row place start t h f er
        (es ∙ ap (λ (x : ℕ). length (take place l) - x) (sym (length-map us (from_powers ps)) ∙ ap length same))
        (part_changed (from_powers ps) us l place start (sparse_room l₀ l place t f).1 es l₁ vs l₂ e₁ ev e₂
        ∙ ap (λ (x : List ℕ). back x (take place l) ++ drop place l) same)
        (let more : s - (t - 1) ≡ suc (s - t) = omega (arith, filled_inside k s u l₀ l _ place t f) in
        ap (λ (i : ℕ). later_words k i k.spread) more ∙ sym (later_words_suc k (s - t) k.spread))
      where
        same : map (from_powers ps) us ≡ marked_words (later_words k (s - t) k.spread) (cell row) (length (later_words k (s - t) k.spread))
        same = words ∙ ap (λ (i : ℕ). marked_words (later_words k i k.spread) (cell row) (length (later_words k i k.spread))) ej

  -- rows without a marked cell are passed over
  pub sparse_skips : (l₀ l list : List ℕ) (rows : Rows) (place t r : ℕ) → Sparse l₀ l place t → chains k ≤ 256 → u ≡ cells_of list rows → r ≡ last_marked list rows t
      → Sparse l₀ l place r
  unfolding Sparse
  sparse_skips l₀ l list rows place t r f narrow eu er =
      filled_skips k s u l₀ l (later_words k (s - t) k.spread) place t r f (omega (arith, last_le list rows t)) narrow
      (λ v c a b few. ap (λ (x : Response). x v c) eu ∙ blank_cells list rows t v c (omega arith) b few)

  pub sparse_ends : (l₀ l : List ℕ) (place t : ℕ) → Sparse l₀ l place t → t ≡ 0 → l ≡ back (columns_below k s u s) l₀
  unfolding Sparse
  sparse_ends l₀ l place t f e = filled_ends k s u l₀ l (later_words k (s - t) k.spread) place t f e

-- the table has the powers of a register of width m and tap word taps
abbrev pub PowersIn : ℕ → ℕ → ℕ → List ℕ → Type 0
PowersIn m taps s table = (i : ℕ) → i < s + m → get_or table i 0 ≡ later (circuit m taps 0 []) i 1

-- the spread words of a taken set, with the limits on width and chains
pub good_limited : (m n width chains : ℕ) (spread : List ℕ) → width ≡ min m 64 → chains ≡ min n 256 → length spread ≡ 256
    → bad_spread width (take chains spread) ≡ bad_spread (min m 64) (take n spread)
good_limited m n width chains spread ew ec long = ap₂ bad_spread ew (take_limit spread n chains (ec ∙ ap (min n) (sym long)))

-- a turn with the powers that stand in a table of 576 words, as many as slices and width ask for
module _ (m taps inversion : ℕ) (ws : List ℕ) (s : ℕ) (u : Response) (table : List ℕ) (many : length table ≡ 576)
    (right : PowersIn m taps s table) (good : bad_spread m ws ≡ false) where
  pub sparse_steps : (l₀ l l₁ vs l₂ row : List ℕ) (place start t width : ℕ) → m ≤ 64 → s ≤ 512 → 0 < t → width ≡ m
      → Sparse (circuit m taps inversion ws) s u l₀ l place t → cell row ≡ u (t - 1)
      → start ≡ length (take place l) - length (marked_words ws (cell row) (length ws))
      → l₁ ≡ back (marked_words ws (cell row) (length ws)) (take place l) ++ drop place l
      → vs ≡ map (from_powers (take (s - 1 - (t - 1) + width - (s - 1 - (t - 1))) (drop (s - 1 - (t - 1)) table))) (take (place - start) (drop start l₁))
      → l₂ ≡ take start l₁ ++ (vs ++ drop (place - start) (drop start l₁)) → Sparse (circuit m taps inversion ws) s u l₀ l₂ start (t - 1)
  sparse_steps l₀ l l₁ vs l₂ row place start t width hm hs h ew f er es e₁ ev e₂ =
      sparse_turns (circuit m taps inversion ws) s u (take m (drop (s - t) table)) (s - t) part.0 part.1 good row l₀ l l₁ vs l₂ place start t h refl f er
      es e₁ (ev ∙ ap₂ (λ (x y : ℕ). map (from_powers (take x (drop y table))) (take (place - start) (drop start l₁))) wide later_by)
      (e₂ ∙ sym (append_assoc (take start l₁) vs (drop (place - start) (drop start l₁))) ∙ ap (λ (x : List ℕ). take start l₁ ++ vs ++ x) after)
    where
      part : (length (take m (drop (s - t) table)) ≡ m) × ((i : ℕ) → i < m → get_or (take m (drop (s - t) table)) i 0 ≡ later (circuit m taps inversion ws) (i + (s - t)) 1)
      part = powers_part (circuit m taps inversion ws) table (s - t) many (λ i l. right i (omega arith) ∙ later_same m taps inversion ws i 1) (omega arith)

      after : drop (place - start) (drop start l₁) ≡ drop place l₁
      after =
          let all : start + (place - start) ≡ place = omega (arith, es, length-take place l) in
          drop-drop (place - start) start l₁ ∙ ap (λ (i : ℕ). drop i l₁) all

      wide : s - 1 - (t - 1) + width - (s - 1 - (t - 1)) ≡ m
      wide = omega arith

      later_by : s - 1 - (t - 1) ≡ s - t
      later_by = omega arith

-- ---- which way is taken

-- there are at most 131,072 cells
pub cells_most : (s n : ℕ) → s ≤ 512 → n ≤ 256 → s * n ≤ 131072
cells_most s n hs hn = omega (arith, mul-le-mul_left s hn, mul-le-mul_right 256 hs)

pub many_sweep : (k n s : ℕ) → 1024 ≤ k → false ≡ ones_pay k n s
unfolding ones_pay
many_sweep k n s h =
    sym
    (le-ltb (128 * k + 4 * min s 512 + 256) (min s 512 * min n 256)
    (omega (arith, cells_most (min s 512) (min n 256) (omega arith) (omega arith))))

pub few_pay : (k n s slices chains : ℕ) → slices ≡ min s 512 → chains ≡ min n 256 → ltb (128 * k + 4 * slices + 256) (slices * chains) ≡ ones_pay k n s
unfolding ones_pay
few_pay k n s slices chains es en = ap₂ (λ (x y : ℕ). ltb (128 * k + 4 * x + 256) (x * y)) es en
