-- The columns of all slices by eights of clocks, written from the end: the start, the turn and the end of the loop over the slices. Assumes nothing.
use mathlib.Core.Path.{◌≡◌, sym, ap, ◌∙◌}
use mathlib.Core.Bool.{cond}
use mathlib.Core.List.{List, ◌++◌, map}
use Prim.Native.Nat.{ℕ, suc, ◌+◌, ◌-◌, ◌*◌, ◌/◌, ◌%◌, ◌≤◌, ◌<◌}
use native.Mathlib.Omega.{arith}
use lib.Dec.{eqb}
use lib.ListN.{length, take, drop, get_or, length-map}
use Rattle.rows.specs.Row.{cell}
use Rattle.rows.specs.Marks.{marked_words}
use Rattle.register.specs.Circuit.{Circuit}
use Rattle.signatures.specs.Signature.{Response}
use Rattle.signatures.specs.Later.{later}
use Rattle.signatures.specs.Columns.{columns_below}
use Rattle.marked_words.specs.Back.{back}
use Rattle.powers.proofs.PowerLaws.{later_add}
use Rattle.eight_clocks.specs.Eight.{EightOn, looked_on}
use Rattle.eight_clocks.proofs.EightLaws.{looked_later, eights_on}
use Rattle.swept_columns.proofs.FillLaws.{later_words, later_words_lem, later_words_none, later_words_get, later_words_length, later_words_suc, Filled, filled_inside, filled_room, filled_starts, filled_down, filled_ends, filled_place}
use Rattle.sparse_columns.proofs.SparseLaws.{map_chosen}

-- so many clocks in whole eights
abbrev eights : ℕ → ℕ
eights n = 8 * (n / 8)

module _ (k : Circuit) (s : ℕ) (u : Response) where
  -- what the loop knows: the columns of the slices from t on stand at the list's end, `place` places stand before them, and the words are the
  -- spread words after the whole eights of the clocks that are left of the slice before t
  pub Eighth : List ℕ → List ℕ → ℕ → ℕ → List ℕ → Type 0
  Eighth l₀ l place t ws = Filled k s u l₀ l place t (later_words k (s - t) k.spread) × (ws ≡ later_words k (eights (s - t)) k.spread)

  pub eighth_room : (l₀ l ws : List ℕ) (place t : ℕ) → Eighth l₀ l place t ws → (length l ≡ length l₀) × (place ≤ length l)
  unfolding Eighth
  eighth_room l₀ l ws place t f =
      let room = filled_room k s u l₀ l (later_words k (s - t) k.spread) place t f.0 in (room.0, room.1)

  pub eighth_starts : (l ws : List ℕ) (t : ℕ) → t ≡ s → ws ≡ k.spread → Eighth l l (length l) t ws
  unfolding Eighth
  eighth_starts l ws t e ew =
      let none : s - t ≡ 0 = omega arith in
      let none_yet : eights (s - t) ≡ 0 = omega arith in (
        filled_starts k s u l (later_words k (s - t) k.spread) t e
            (ap (λ (j : ℕ). later_words k j k.spread) none ∙ later_words_none k k.spread),
        ew ∙ sym (ap (λ (j : ℕ). later_words k j k.spread) none_yet ∙ later_words_none k k.spread),
      )

  pub eighth_ends : (l₀ l ws : List ℕ) (place t : ℕ) → Eighth l₀ l place t ws → t ≡ 0 → l ≡ back (columns_below k s u s) l₀
  unfolding Eighth
  eighth_ends l₀ l ws place t f e = filled_ends k s u l₀ l (later_words k (s - t) k.spread) place t f.0 e

  pub eighth_place : (l₀ l ws : List ℕ) (place t : ℕ) → Eighth l₀ l place t ws → t ≡ 0 → place ≡ length l₀ - length (columns_below k s u s)
  unfolding Eighth
  eighth_place l₀ l ws place t f e = filled_place k s u l₀ l (later_words k (s - t) k.spread) place t f.0 e

  module _ (table : List ℕ) (wide : 8 ≤ k.width) (right : EightOn k table) where
    -- the words for the slice before
    passed : (n : ℕ) (ws ws' : List ℕ) → ws ≡ later_words k (eights n) k.spread
        → ws' ≡ cond (eqb (n % 8) 7) (map (looked_on k.width table 8) ws) ws → ws' ≡ later_words k (eights (suc n)) k.spread
    passed n ws ws' ew e =
        eights_on k wide table right n k.spread ws ws' (ew ∙ later_words_lem k (eights n) k.spread) e
        ∙ sym (later_words_lem k (eights (suc n)) k.spread)

    -- the words of marked cells, for the clocks between
    between : (n : ℕ) (ws : List ℕ) (x : ℕ → ℕ) → ws ≡ later_words k (eights n) k.spread
        → map (looked_on k.width table (n % 8)) (marked_words ws x (length ws)) ≡ marked_words (later_words k n k.spread) x (length (later_words k n k.spread))
    between n ws x ew =
        let sum : eights n + n % 8 ≡ n = omega arith in
        let long : length ws ≡ length (later_words k n k.spread) =
        ap length ew ∙ later_words_length k (eights n) k.spread ∙ sym (later_words_length k n k.spread) in
        map_chosen (looked_on k.width table (n % 8)) ws (later_words k n k.spread) x (length ws)
        (λ c l.
        looked_later k wide table right (n % 8) (get_or ws c 0) (omega arith)
        ∙ ap (later k (n % 8)) (ap (λ (v : List ℕ). get_or v c 0) ew ∙ later_words_get k (eights n) k.spread c)
        ∙ sym (later_add k (eights n) (n % 8) (get_or k.spread c 0)) ∙ ap (λ (j : ℕ). later k j (get_or k.spread c 0)) sum
        ∙ sym (later_words_get k n k.spread c))
        ∙ ap (marked_words (later_words k n k.spread) x) long

    pub eighth_turns : (l₀ l l' ws ws' row : List ℕ) (place place' t clocks : ℕ) → 0 < t → clocks ≡ s - t → Eighth l₀ l place t ws → cell row ≡ u (t - 1)
        → place' ≡ length (take place l) - length (marked_words ws (cell row) (length ws))
        → l' ≡ back (map (looked_on k.width table (clocks % 8)) (marked_words ws (cell row) (length ws))) (take place l) ++ drop place l
        → ws' ≡ cond (eqb (clocks % 8) 7) (map (looked_on k.width table 8) ws) ws → Eighth l₀ l' place' (t - 1) ws'
    unfolding Eighth
    eighth_turns l₀ l l' ws ws' row place place' t clocks h ec f er ep el ew = (
      filled_down k s u l₀ l l' (later_words k (s - t) k.spread) (later_words k (s - (t - 1)) k.spread) row place place' t h f.0 er
          (ep
          ∙ ap (λ (x : ℕ). length (take place l) - x)
          (sym (length-map (marked_words ws (cell row) (length ws)) (looked_on k.width table ((s - t) % 8))) ∙ ap length same))
          (rw ec at el ∙ ap (λ (x : List ℕ). back x (take place l) ++ drop place l) same)
          (ap (λ (i : ℕ). later_words k i k.spread) more ∙ sym (later_words_suc k (s - t) k.spread)),
      passed (s - t) ws ws' f.1 (rw ec at ew) ∙ ap (λ (i : ℕ). later_words k (eights i) k.spread) (sym more),
    )
      where
        more : s - (t - 1) ≡ suc (s - t)
        more = omega (arith, filled_inside k s u l₀ l _ place t f.0)

        same : map (looked_on k.width table ((s - t) % 8)) (marked_words ws (cell row) (length ws))
            ≡ marked_words (later_words k (s - t) k.spread) (cell row) (length (later_words k (s - t) k.spread))
        same = between (s - t) ws (cell row) f.1
