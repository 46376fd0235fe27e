-- The columns of all slices, written from the end: the start, the turn and the end of the loop over the slices. Assumes nothing.
use mathlib.Core.Path.{◌≡◌, refl, sym, ap, ap₂, ◌∙◌}
use mathlib.Core.List.{List, [], ◌∷◌, ◌++◌, map, map-map, append-nil}
use Prim.Native.Nat.{ℕ, zero, suc, ◌+◌, ◌-◌, ◌≤◌, ◌<◌, min}
use native.Mathlib.Omega.{arith}
use lib.ListN.{length, take, drop, get_or, length-map, get_or-map}
use Rattle.numbers.specs.Joined.{joined}
use Rattle.numbers.proofs.JoinLaws.{joined_ext}
use Rattle.rows.specs.Row.{cell}
use Rattle.register.specs.Circuit.{Circuit, circuit, chains, advanced}
use Rattle.signatures.specs.Signature.{Response, column}
use Rattle.signatures.specs.Later.{later}
use Rattle.rows.specs.Marks.{listed}
use Rattle.signatures.specs.Columns.{slice_columns, columns_below}
use Rattle.rows.specs.Marks.{marked_words}
use Rattle.marked_words.specs.Back.{back}
use Rattle.signatures.proofs.ColumnLaws.{column_closed}
use Rattle.powers.proofs.PowerLaws.{later_zero}
use Rattle.numbers.proofs.PartLaws.{take_limit}
use Rattle.marked_words.proofs.BackLaws.{rest, rest_none, rest_suc, rest_whole, back_none, back_length, back_more, back_more_room}

-- every word after j clocks
pub later_words : Circuit → ℕ → List ℕ → List ℕ
later_words k j ws = map (later k j) ws

pub later_words_lem : (k : Circuit) (j : ℕ) (ws : List ℕ) → later_words k j ws ≡ map (later k j) ws
unfolding later_words
later_words_lem k j ws = refl

pub later_words_none : (k : Circuit) (ws : List ℕ) → later_words k 0 ws ≡ ws
unfolding later_words later
later_words_none k [] = refl
later_words_none k (w ∷ ws) = ap (λ (l : List ℕ). w ∷ l) (later_words_none k ws)

pub later_words_suc : (k : Circuit) (j : ℕ) (ws : List ℕ) → map (advanced k.width k.taps) (later_words k j ws) ≡ later_words k (suc j) ws
unfolding later_words later
later_words_suc k j ws = map-map (advanced k.width k.taps) (later k j) ws

pub later_words_length : (k : Circuit) (j : ℕ) (ws : List ℕ) → length (later_words k j ws) ≡ length ws
unfolding later_words
later_words_length k j ws = length-map ws (later k j)

pub later_words_get : (k : Circuit) (j : ℕ) (ws : List ℕ) (c : ℕ) → get_or (later_words k j ws) c 0 ≡ later k j (get_or ws c 0)
unfolding later_words
later_words_get k j ws c = ap (get_or (map (later k j) ws) c) (sym (later_zero k j)) ∙ get_or-map (later k j) ws c 0

module _ (k : Circuit) (s : ℕ) (u : Response) where
  abbrev slice : ℕ → List ℕ
  slice t = slice_columns k s u t (chains k)

  columns_joined : (t : ℕ) → columns_below k s u t ≡ joined slice t
  unfolding columns_below joined
  columns_joined zero = refl
  columns_joined (suc t) = ap (λ (l : List ℕ). l ++ slice t) (columns_joined t)

  slice_joined : (t c : ℕ) → slice_columns k s u t c ≡ joined (λ d. listed (u t d) (column k s t d)) c
  unfolding slice_columns joined
  slice_joined t zero = refl
  slice_joined t (suc c) = ap (λ (l : List ℕ). l ++ listed (u t c) (column k s t c)) (slice_joined t c)

  -- the columns of slice t are the spread words of its unknown cells, advanced once for each later slice; of its first n chains
  pub first_words : (t n : ℕ) → t < s → n ≤ chains k → slice_columns k s u t n ≡ marked_words (later_words k (s - suc t) k.spread) (u t) n
  first_words t n h few =
      slice_joined t n
      ∙ joined_ext (λ d. listed (u t d) (column k s t d)) (λ d. listed (u t d) (get_or (later_words k (s - suc t) k.spread) d 0)) n
      (λ c l.
      ap (listed (u t c))
      (column_closed k s t c h (omega arith)
      ∙ (let same : s - 1 - t ≡ s - suc t = omega arith in ap (λ (j : ℕ). later k j (get_or k.spread c 0)) same)
      ∙ sym (later_words_get k (s - suc t) k.spread c)))

  -- .. and of all of them
  slice_words : (t : ℕ) → t < s → slice t ≡ marked_words (later_words k (s - suc t) k.spread) (u t) (length (later_words k (s - suc t) k.spread))
  slice_words t h =
      first_words t (chains k) h (omega arith)
      ∙ ap (joined (λ d. listed (u t d) (get_or (later_words k (s - suc t) k.spread) d 0))) (sym (later_words_length k (s - suc t) k.spread))

  -- the columns of the slices from t on
  pub slices_from : ℕ → List ℕ
  slices_from t = rest slice t (s - t)

  slices_from_end : slices_from s ≡ []
  unfolding slices_from
  slices_from_end = let none : s - s ≡ 0 = omega arith in ap (rest slice s) none ∙ rest_none slice s

  slices_from_start : slices_from 0 ≡ columns_below k s u s
  unfolding slices_from
  slices_from_start = let all : s - 0 ≡ s = omega arith in ap (rest slice 0) all ∙ rest_whole slice s ∙ sym (columns_joined s)

  slices_from_down : (t : ℕ) → t < s → slices_from t ≡ slice t ++ slices_from (suc t)
  unfolding slices_from
  slices_from_down t h = let more : s - t ≡ suc (s - suc t) = omega arith in ap (rest slice t) more ∙ rest_suc slice t (s - suc t)

  -- slices without a marked cell have no columns

  slice_blank : (v n : ℕ) → ((c : ℕ) → c < n → u v c ≡ 0) → slice_columns k s u v n ≡ []
  unfolding slice_columns
  slice_blank v zero h = refl
  slice_blank v (suc n) h =
      ap₂ (λ (a b : List ℕ). a ++ b) (slice_blank v n (λ c l. h c (omega arith))) (ap (λ (d : ℕ). listed d (column k s v n)) (h n (omega arith)))

  columns_more : (i : ℕ) → columns_below k s u (suc i) ≡ columns_below k s u i ++ slice i
  unfolding columns_below
  columns_more i = refl

  columns_blank : (j r t : ℕ) → r + j ≡ t → ((v : ℕ) → r ≤ v → v < t → slice v ≡ []) → columns_below k s u t ≡ columns_below k s u r
  columns_blank zero r t e blank = let same : t ≡ r = omega arith in ap (columns_below k s u) same
  columns_blank (suc j) r t e blank =
      let end : t ≡ suc (t - 1) = omega arith in
      ap (columns_below k s u) end ∙ columns_more (t - 1) ∙ ap (λ (x : List ℕ). columns_below k s u (t - 1) ++ x) (blank (t - 1) (omega arith) (omega arith))
      ∙ append-nil (columns_below k s u (t - 1)) ∙ columns_blank j r (t - 1) (omega arith) (λ v a b. blank v a (omega arith))

  -- the columns of the slices below t are those of the slices below r, where no slice between has a marked cell
  pub columns_skipped : (r t : ℕ) → r ≤ t → chains k ≤ 256 → ((v c : ℕ) → r ≤ v → v < t → c < 256 → u v c ≡ 0) → columns_below k s u t ≡ columns_below k s u r
  columns_skipped r t h few blank =
      columns_blank (t - r) r t (omega arith) (λ v a b. slice_blank v (chains k) (λ c l. blank v c a b (omega arith)))

  slices_from_blank : (j r t : ℕ) → r + j ≡ t → t ≤ s → ((v : ℕ) → r ≤ v → v < t → slice v ≡ []) → slices_from r ≡ slices_from t
  slices_from_blank zero r t e h blank = let same : r ≡ t = omega arith in ap slices_from same
  slices_from_blank (suc j) r t e h blank =
      let end : suc (t - 1) ≡ t = omega arith in
      slices_from_blank j r (t - 1) (omega arith) (omega arith) (λ v a b. blank v a (omega arith))
      ∙ slices_from_down (t - 1) (omega arith) ∙ ap₂ (λ (x : List ℕ) (i : ℕ). x ++ slices_from i) (blank (t - 1) (omega arith) (omega arith)) end

  -- what the loop knows: the columns of the slices from t on stand at the list's end, `place` places stand before them, and
  -- the words are the spread words after as many clocks as there are slices from t on
  pub Filled : List ℕ → List ℕ → ℕ → ℕ → List ℕ → Type 0
  Filled l₀ l place t ws =
      (t ≤ s) × (place ≡ length l₀ - length (slices_from t)) × (l ≡ back (slices_from t) l₀) × (ws ≡ later_words k (s - t) k.spread)

  pub filled_inside : (l₀ l ws : List ℕ) (place t : ℕ) → Filled l₀ l place t ws → t ≤ s
  unfolding Filled
  filled_inside l₀ l ws place t f = f.0

  pub filled_room : (l₀ l ws : List ℕ) (place t : ℕ) → Filled l₀ l place t ws
      → (length l ≡ length l₀) × (place ≤ length l) × (length ws ≡ length k.spread)
  unfolding Filled
  filled_room l₀ l ws place t f =
      let same : length l ≡ length l₀ = ap length f.2 ∙ back_length (slices_from t) l₀ in
      (same, omega arith, ap length f.3 ∙ later_words_length k (s - t) k.spread)

  pub filled_starts : (l ws : List ℕ) (t : ℕ) → t ≡ s → ws ≡ k.spread → Filled l l (length l) t ws
  unfolding Filled
  filled_starts l ws t e ew =
      let none : s - t ≡ 0 = omega arith in
      let end : slices_from t ≡ [] = ap slices_from e ∙ slices_from_end in (
        omega arith,
        rw end (omega arith),
        rw end (sym (back_none l)),
        ew ∙ sym (ap (λ (j : ℕ). later_words k j k.spread) none ∙ later_words_none k k.spread),
      )

  -- slices without a marked cell are passed over
  pub filled_skips : (l₀ l ws : List ℕ) (place t r : ℕ) → Filled l₀ l place t ws → r ≤ t → chains k ≤ 256
      → ((v c : ℕ) → r ≤ v → v < t → c < 256 → u v c ≡ 0) → Filled l₀ l place r (later_words k (s - r) k.spread)
  unfolding Filled
  filled_skips l₀ l ws place t r f few narrow blank = (
    omega (arith, f.0),
    f.1 ∙ ap (λ (x : List ℕ). length l₀ - length x) (sym same),
    f.2 ∙ ap (λ (x : List ℕ). back x l₀) (sym same),
    refl,
  )
    where
      same : slices_from r ≡ slices_from t
      same =
          slices_from_blank (t - r) r t (omega arith) f.0 (λ v a b. slice_blank v (chains k) (λ c l. blank v c a b (omega arith)))

  pub filled_turns : (l₀ l l' ws ws' row : List ℕ) (place place' t : ℕ) → Filled l₀ l place (suc t) ws → cell row ≡ u t
      → place' ≡ length (take place l) - length (marked_words ws (cell row) (length ws))
      → l' ≡ back (marked_words ws (cell row) (length ws)) (take place l) ++ drop place l
      → ws' ≡ map (advanced k.width k.taps) ws → Filled l₀ l' place' t ws'
  unfolding Filled
  filled_turns l₀ l l' ws ws' row place place' t f er ep el ew = (
    omega arith,
    ep ∙ ap₂ (λ (x y : List ℕ). length (take place x) - length y) f.2 mine
        ∙ back_more_room (slice t) (slices_from (suc t)) l₀ place f.1
        ∙ ap (λ (x : List ℕ). length l₀ - length x) (sym (slices_from_down t f.0)),
    el ∙ ap₂ (λ (x y : List ℕ). back y (take place x) ++ drop place x) f.2 mine
        ∙ back_more (slice t) (slices_from (suc t)) l₀ place f.1
        ∙ ap (λ (x : List ℕ). back x l₀) (sym (slices_from_down t f.0)),
    ew ∙ ap (map (advanced k.width k.taps)) f.3 ∙ later_words_suc k (s - suc t) k.spread
        ∙ (let more : suc (s - suc t) ≡ s - t = omega (arith, f.0) in ap (λ (j : ℕ). later_words k j k.spread) more),
  )
    where
      mine : marked_words ws (cell row) (length ws) ≡ slice t
      mine = ap₂ (λ (x : List ℕ) (y : ℕ → ℕ). marked_words x y (length x)) f.3 er ∙ sym (slice_words t f.0)

  pub filled_down : (l₀ l l' ws ws' row : List ℕ) (place place' t : ℕ) → 0 < t → Filled l₀ l place t ws → cell row ≡ u (t - 1)
      → place' ≡ length (take place l) - length (marked_words ws (cell row) (length ws))
      → l' ≡ back (marked_words ws (cell row) (length ws)) (take place l) ++ drop place l
      → ws' ≡ map (advanced k.width k.taps) ws → Filled l₀ l' place' (t - 1) ws'
  filled_down l₀ l l' ws ws' row place place' t h f =
      let back_up : t ≡ suc (t - 1) = omega arith in
      filled_turns l₀ l l' ws ws' row place place' (t - 1) (rw back_up at f)

  pub filled_ends : (l₀ l ws : List ℕ) (place t : ℕ) → Filled l₀ l place t ws → t ≡ 0 → l ≡ back (columns_below k s u s) l₀
  unfolding Filled
  filled_ends l₀ l ws place t f e = f.2 ∙ ap (λ (x : List ℕ). back x l₀) (ap slices_from e ∙ slices_from_start)

  pub filled_place : (l₀ l ws : List ℕ) (place t : ℕ) → Filled l₀ l place t ws → t ≡ 0 → place ≡ length l₀ - length (columns_below k s u s)
  unfolding Filled
  filled_place l₀ l ws place t f e = f.1 ∙ ap (λ (x : List ℕ). length l₀ - length x) (ap slices_from e ∙ slices_from_start)

-- the limits on chains and slices, where the spread words are 256
pub columns_limited : (m taps inversion n s chains slices : ℕ) (spread : List ℕ) (u : Response) → chains ≡ min n 256 → slices ≡ min s 512 → length spread ≡ 256
    → columns_below (circuit m taps inversion (take chains spread)) slices u slices ≡ columns_below (circuit m taps inversion (take n spread)) (min s 512) u (min s 512)
columns_limited m taps inversion n s chains slices spread u ec es long =
    ap₂ (λ (x : List ℕ) (y : ℕ). columns_below (circuit m taps inversion x) y u y) (take_limit spread n chains (ec ∙ ap (min n) (sym long))) es
