-- Rows copied one after the other.
--
--   row_byte, row_byte_past  a byte of a row is one of the list; past the row's end it is 0
--   Copied b f l t           the rows f 0 to f (t - 1) stand in l, b bytes each, and zeros behind them
--   copied_starts, rows_turn, rows_end   the loop that copies rows: at its end every cell is that of the row that was copied
-- Assumes nothing.
use mathlib.Core.Path.{◌≡◌, refl, sym, ap, ◌∙◌}
use mathlib.Core.Logic.{dite}
use mathlib.Core.List.{List, [], ◌∷◌}
use Prim.Native.Nat.{ℕ, zero, suc, ◌+◌, ◌*◌, ◌/◌, ◌%◌, ◌≤◌, ◌<◌}
use native.Mathlib.Nat.{mul-suc, mul-le-mul_left, mul-le-mul_right}
use native.Mathlib.Numerals.{add-one}
use native.Mathlib.Decide.{dec_lt}
use native.Mathlib.Omega.{arith}
use lib.ListN.{length, get_or, drop, set, replicate, length-set, length-take, get_or-replicate, get_or-eq_default, length-replicate}
use lib.Seq.{sets, get_or-set_same, get_or-set_other, get_or-take, get_or-drop}
use Rattle.word.specs.Word.{digit}
use Rattle.rows.specs.Row.{row_bytes, cell}
use Rattle.rows.specs.Lists.{list_row, row_of}
use Rattle.rows.specs.declared.Rows.{Rows}
use Rattle.rows.proofs.CellLaws.{row_step}

-- ---- a list after bytes were written into it

sets_before : (vs l : List ℕ) (i j : ℕ) → j < i → get_or (sets l i vs) j 0 ≡ get_or l j 0
sets_before [] l i j h = refl
sets_before (v ∷ vs) l i j h =
    sets_before vs (set l i v) (suc i) j (omega arith) ∙ get_or-set_other l i j v 0 (λ (e : j ≡ i). omega arith)

sets_inside : (vs l : List ℕ) (i j : ℕ) → j < length vs → i + j < length l → get_or (sets l i vs) (i + j) 0 ≡ get_or vs j 0
sets_inside [] l i j h k = let z : ⊥ = omega arith in absurd z
sets_inside (v ∷ vs) l i zero h k =
    let here : i + 0 ≡ i = omega arith in
    ap (λ (x : ℕ). get_or (sets (set l i v) (suc i) vs) x 0) here ∙ sets_before vs (set l i v) (suc i) i (omega arith)
    ∙ get_or-set_same l i v 0 (omega arith)
sets_inside (v ∷ vs) l i (suc j) h k =
    let on : i + suc j ≡ suc i + j = omega arith in
    ap (λ (x : ℕ). get_or (sets (set l i v) (suc i) vs) x 0) on
    ∙ sets_inside vs (set l i v) (suc i) j (omega arith) (omega (arith, length-set l i v))

sets_behind : (vs l : List ℕ) (i j : ℕ) → i + length vs ≤ j → get_or (sets l i vs) j 0 ≡ get_or l j 0
sets_behind [] l i j h = refl
sets_behind (v ∷ vs) l i j h =
    sets_behind vs (set l i v) (suc i) j (omega arith) ∙ get_or-set_other l i j v 0 (λ (e : j ≡ i). omega arith)

-- ---- a row's bytes

pub row_byte : (n : ℕ) (l : List ℕ) (t j : ℕ) → j < row_bytes n → get_or (list_row n l t) j 0 ≡ get_or l (row_bytes n * t + j) 0
unfolding list_row
row_byte n l t j h = get_or-take (row_bytes n) (drop (row_bytes n * t) l) j 0 h ∙ get_or-drop (row_bytes n * t) l j 0

pub row_byte_past : (n : ℕ) (l : List ℕ) (t j : ℕ) → row_bytes n ≤ j → get_or (list_row n l t) j 0 ≡ 0
unfolding list_row
row_byte_past n l t j h =
    get_or-eq_default (list_row n l t) 0 (omega (arith, length-take (row_bytes n) (drop (row_bytes n * t) l)))

-- ---- rows one after the other

module _ (b : ℕ) (f : ℕ → List ℕ) where
  pub record Copied (l : List ℕ) (t : ℕ) : Type 0 where
    pub clear : (i : ℕ) → b * t ≤ i → get_or l i 0 ≡ 0
    pub rows : (u j : ℕ) → u < t → j < b → get_or l (b * u + j) 0 ≡ get_or (f u) j 0

  pub copied_starts : (l : List ℕ) (k : ℕ) → l ≡ replicate k 0 → Copied l 0
  copied_starts l k e = record {
    clear = λ i h.
        dite (dec_lt i k) (λ (q : i < k). ap (λ (x : List ℕ). get_or x i 0) e ∙ get_or-replicate k i 0 0 q)
        (λ (q : i < k → ⊥). get_or-eq_default l 0 (omega (arith, ap length e, length-replicate {A = ℕ} k 0)));
    rows = λ u j h. let z : ⊥ = omega arith in absurd z;
  }

  copied_turns : (l l' : List ℕ) (t at : ℕ) → Copied l t → length (f t) ≤ b → b * t + b ≤ length l → at ≡ b * t → l' ≡ sets l at (f t)
      → Copied l' (t + 1)
  copied_turns l l' t at w short room ea e = record { clear = behind; rows = inside }
    where
      same : (i : ℕ) → get_or l' i 0 ≡ get_or (sets l (b * t) (f t)) i 0
      same i = ap (λ (x : List ℕ). get_or x i 0) e ∙ ap (λ (x : ℕ). get_or (sets l x (f t)) i 0) ea

      next : b * (t + 1) ≡ b * t + b
      next = ap (λ (x : ℕ). b * x) (add-one t) ∙ mul-suc b t

      behind : (i : ℕ) → b * (t + 1) ≤ i → get_or l' i 0 ≡ 0
      behind i h = same i ∙ sets_behind (f t) l (b * t) i (omega (arith, next)) ∙ w.clear i (omega (arith, next))

      here : (j : ℕ) → j < b → get_or l' (b * t + j) 0 ≡ get_or (f t) j 0
      here j h =
          same (b * t + j)
          ∙ dite (dec_lt j (length (f t))) (λ (q : j < length (f t)). sets_inside (f t) l (b * t) j q (omega arith))
          (λ (q : j < length (f t) → ⊥).
          let past : length (f t) ≤ j = omega arith in
          sets_behind (f t) l (b * t) (b * t + j) (omega arith) ∙ w.clear (b * t + j) (omega arith) ∙ sym (get_or-eq_default (f t) 0 past))

      before : (u j : ℕ) → u < t → j < b → get_or l' (b * u + j) 0 ≡ get_or (f u) j 0
      before u j h k =
          same (b * u + j) ∙ sets_before (f t) l (b * t) (b * u + j) (omega (arith, row_step b u t h)) ∙ w.rows u j h k

      inside : (u j : ℕ) → u < t + 1 → j < b → get_or l' (b * u + j) 0 ≡ get_or (f u) j 0
      inside u j h k =
          dite (dec_lt u t) (λ (q : u < t). before u j q k)
          (λ (q : u < t → ⊥). let last : u ≡ t = omega arith in ap (λ (x : ℕ). get_or l' (b * x + j) 0) last ∙ here j k ∙ ap (λ (x : ℕ). get_or (f x) j 0) (sym last))

-- every cell is that of the row that was copied
copied_cell : (n : ℕ) (f : ℕ → List ℕ) (l : List ℕ) (s t : ℕ) → Copied (row_bytes n) f l s → t < s → length (f t) ≤ row_bytes n
    → (c : ℕ) → cell (list_row n l t) c ≡ cell (f t) c
copied_cell n f l s t w h short c = ap (digit (c % 8)) byte
  where
    byte : get_or (list_row n l t) (c / 8) 0 ≡ get_or (f t) (c / 8) 0
    byte =
        dite (dec_lt (c / 8) (row_bytes n))
        (λ (q : c / 8 < row_bytes n). row_byte n l t (c / 8) q ∙ w.rows t (c / 8) h q)
        (λ (q : c / 8 < row_bytes n → ⊥).
        let past : row_bytes n ≤ c / 8 = omega arith in
        let end : length (f t) ≤ c / 8 = omega arith in
        row_byte_past n l t (c / 8) past ∙ sym (get_or-eq_default (f t) 0 end))

-- 512 rows of 256 chains have room
rows_room : (n s t : ℕ) → n ≤ 256 → s ≤ 512 → t < s → row_bytes n * t + row_bytes n ≤ 16384
rows_room n s t hn hs h =
    omega (arith, row_step (row_bytes n) t s h, mul-le-mul_left (row_bytes n) hs, mul-le-mul_right 512 (few n hn))
  where
    few : (n : ℕ) → n ≤ 256 → row_bytes n ≤ 32
    few n h = omega arith

-- ---- the rows that stand in a list

module _ (n : ℕ) (list : List ℕ) (marks : Rows) (whole : marks.bytes ≡ row_bytes n) where
  row_short : (t : ℕ) → length (row_of list marks t) ≤ row_bytes n
  row_short t = omega (arith, length-take marks.bytes (drop (marks.at + marks.stride * t) list))

  pub rows_turn : (s t bytes : ℕ) (l l' row : List ℕ) → n ≤ 256 → s ≤ 512 → t < s → length l ≡ 16384 → bytes ≡ row_bytes n
      → row ≡ row_of list marks t → l' ≡ sets l (bytes * t) row → Copied (row_bytes n) (row_of list marks) l t
      → Copied (row_bytes n) (row_of list marks) l' (t + 1)
  rows_turn s t bytes l l' row hn hs h long eb er e w =
      copied_turns (row_bytes n) (row_of list marks) l l' t (bytes * t) w (row_short t) (omega (arith, rows_room n s t hn hs h))
      (ap (λ (b : ℕ). b * t) eb) (e ∙ ap (sets l (bytes * t)) er)

  pub rows_end : (s t : ℕ) (l : List ℕ) → t ≡ s → Copied (row_bytes n) (row_of list marks) l t
      → (u c : ℕ) → u < s → cell (list_row n l u) c ≡ cell (row_of list marks u) c
  rows_end s t l e w u c h = copied_cell n (row_of list marks) l t u w (omega arith) (row_short u) c
