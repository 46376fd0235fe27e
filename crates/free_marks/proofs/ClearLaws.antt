-- Cells cleared in rows of n chains.
--
--   others k         the byte with all bits set but bit k
--   cleared_cell     one store clears one cell and leaves the others
--   cleared_past     a row without that byte has nothing to clear
--   cleared_end      nor has a list that ends before it
--   entry_clears     the cell of an entry whose flag is 0 is cleared
--   entry_leaves     .. of one whose flag isn't, left
--   entries_start, entries_turn, entries_end   the loop over the entries
-- Assumes nothing.
use mathlib.Core.Path.{◌≡◌, refl, sym, ap, ap₂, subst, ◌∙◌}
use mathlib.Core.Bool.{Bool, true, false, not, cond, ◌&&◌, ◌||◌}
use mathlib.Core.Logic.{dite}
use mathlib.Core.List.{List}
use Prim.Native.Nat.{ℕ, ◌+◌, ◌-◌, ◌*◌, ◌/◌, ◌%◌, ◌^◌, ◌≤◌, ◌<◌, min}
use native.Mathlib.Numerals.{add-one}
use native.Mathlib.Decide.{dec_lt, ℕ_discrete}
use native.Mathlib.Omega.{arith}
use borrow.Author.Tests.{eq-eqb, ne_eqb, eqb-true, not-false}
use lib.Bits.{bit_and, and_step, and_shr}
use lib.Dec.{eqb}
use lib.ListN.{length, get_or, set, get_or-eq_default}
use lib.Seq.{get_or-set_same, get_or-set_other}
use Rattle.word.specs.Word.{digit}
use Rattle.word.specs.Some.{any_below}
use Rattle.word.proofs.Laws.{mod2_lt}
use Rattle.word.proofs.SomeLaws.{any_below_false}
use Rattle.word.proofs.BoolLaws.{and_none}
use Rattle.numbers.specs.Bytes.{count_at}
use Rattle.rows.specs.Row.{row_bytes, cell}
use Rattle.rows.specs.Lists.{list_row}
use Rattle.rows.proofs.CellLaws.{row_step, cell_clear}
use Rattle.ties.specs.Ties.{entry_bytes, ties_in}
use Rattle.ties.specs.Symbols.{names}
use Rattle.free_marks.proofs.CopyLaws.{row_byte, row_byte_past}

-- ---- a bit of a byte

abbrev pub others : ℕ → ℕ
others k = 255 - (1 * 2 ^ k) % 256

others_tested : any_below 8 (λ k. any_below 8 (λ d. not (eqb (digit d (others k)) (cond (eqb k d) 0 1)))) ≡ false
unfolding any_below
others_tested = refl

others_digit : (k d : ℕ) → k < 8 → d < 8 → digit d (others k) ≡ cond (eqb k d) 0 1
others_digit k d hk hd =
    eqb-true (digit d (others k)) (cond (eqb k d) 0 1)
    (not-false _
    (any_below_false 8 (λ d. not (eqb (digit d (others k)) (cond (eqb k d) 0 1)))
    (any_below_false 8 (λ k. any_below 8 (λ d. not (eqb (digit d (others k)) (cond (eqb k d) 0 1)))) others_tested k hk) d hd))

digit_and : (i a b : ℕ) → digit i (bit_and a b) ≡ min (digit i a) (digit i b)
digit_and i a b = ap (λ (x : ℕ). x % 2) (and_shr a b i) ∙ omega (arith, and_step (a / 2 ^ i) (b / 2 ^ i))

bit_cleared : (x k : ℕ) → k < 8 → digit k (bit_and x (others k)) ≡ 0
bit_cleared x k h =
    let off : digit k (others k) ≡ 0 = others_digit k k h h ∙ ap (λ (b : Bool). cond {A = ℕ} b 0 1) (eq-eqb k k refl) in
    digit_and k x (others k) ∙ ap (min (digit k x)) off ∙ omega arith

bit_left : (x k d : ℕ) → k < 8 → d < 8 → (k ≡ d → ⊥) → digit d (bit_and x (others k)) ≡ digit d x
bit_left x k d hk hd n =
    let on : digit d (others k) ≡ 1 = others_digit k d hk hd ∙ ap (λ (b : Bool). cond {A = ℕ} b 0 1) (ne_eqb k d n) in
    digit_and d x (others k) ∙ ap (min (digit d x)) on ∙ omega (arith, mod2_lt (x / 2 ^ d))

-- ---- one cell among the cells

chosen_cell : (t u c d x y : ℕ) → (t ≡ u → c ≡ d → y ≡ 0) → ((t ≡ u → c ≡ d → ⊥) → y ≡ x) → y ≡ cond (eqb t u && eqb c d) 0 x
chosen_cell t u c d x y here other =
    dite (ℕ_discrete t u)
    (λ (et : t ≡ u).
    dite (ℕ_discrete c d)
    (λ (ec : c ≡ d). here et ec ∙ ap₂ (λ (a b : Bool). cond {A = ℕ} (a && b) 0 x) (sym (eq-eqb t u et)) (sym (eq-eqb c d ec)))
    (λ (nc : c ≡ d → ⊥). other (λ et. nc) ∙ ap₂ (λ (a b : Bool). cond {A = ℕ} (a && b) 0 x) (sym (eq-eqb t u et)) (sym (ne_eqb c d nc))))
    (λ (nt : t ≡ u → ⊥). other (λ et ec. nt et) ∙ ap (λ (a : Bool). cond {A = ℕ} (a && eqb c d) 0 x) (sym (ne_eqb t u nt)))

-- where the byte isn't there the cell is 0 anyway
kept : (n : ℕ) (l : List ℕ) (t c : ℕ) → get_or (list_row n l t) (c / 8) 0 ≡ 0
    → (u d : ℕ) → cell (list_row n l u) d ≡ cond (eqb t u && eqb c d) 0 (cell (list_row n l u) d)
kept n l t c z u d =
    chosen_cell t u c d (cell (list_row n l u) d) (cell (list_row n l u) d)
    (λ et ec. ap₂ (λ (x y : ℕ). cell (list_row n l x) y) (sym et) (sym ec) ∙ cell_clear (list_row n l t) c z) (λ other. refl)

pub cleared_past : (n : ℕ) (l : List ℕ) (t c bytes : ℕ) → bytes ≡ row_bytes n → bytes ≤ c / 8
    → (u d : ℕ) → cell (list_row n l u) d ≡ cond (eqb t u && eqb c d) 0 (cell (list_row n l u) d)
cleared_past n l t c bytes e h = kept n l t c (row_byte_past n l t (c / 8) (omega arith))

pub cleared_end : (n : ℕ) (l : List ℕ) (t c bytes : ℕ) → bytes ≡ row_bytes n → c / 8 < bytes → length l ≤ bytes * t + c / 8
    → (u d : ℕ) → cell (list_row n l u) d ≡ cond (eqb t u && eqb c d) 0 (cell (list_row n l u) d)
cleared_end n l t c bytes e h past =
    let end : length l ≤ row_bytes n * t + c / 8 = subst (λ (b : ℕ). length l ≤ b * t + c / 8) e past in
    kept n l t c (row_byte n l t (c / 8) (omega arith) ∙ get_or-eq_default l 0 end)

-- two places in rows are one only where row and byte are
same_row : (b t u i j : ℕ) → i < b → j < b → b * u + j ≡ b * t + i → t ≡ u
same_row b t u i j hi hj e =
    dite (dec_lt t u) (λ (l : t < u). let z : ⊥ = omega (arith, row_step b t u l) in absurd z)
    (λ (n : t < u → ⊥). dite (dec_lt u t) (λ (l : u < t). let z : ⊥ = omega (arith, row_step b u t l) in absurd z) (λ (m : u < t → ⊥). omega arith))

same_byte : (b t u i j : ℕ) → t ≡ u → b * u + j ≡ b * t + i → i ≡ j
same_byte b t u i j et e = omega (arith, ap (λ (x : ℕ). b * x) et)

module _ (n : ℕ) (l l' : List ℕ) (t c bytes at : ℕ) (eb : bytes ≡ row_bytes n) (ea : at ≡ bytes * t + c / 8) (inside : c / 8 < bytes) (room : at < length l)
    (e : l' ≡ set l at (bit_and (get_or l at 0) (others (c % 8)))) where
  place : at ≡ row_bytes n * t + c / 8
  place = ea ∙ ap (λ (b : ℕ). b * t + c / 8) eb

  stored : get_or l' at 0 ≡ bit_and (get_or l at 0) (others (c % 8))
  stored = ap (λ (x : List ℕ). get_or x at 0) e ∙ get_or-set_same l at (bit_and (get_or l at 0) (others (c % 8))) 0 room

  left : (j : ℕ) → (j ≡ at → ⊥) → get_or l' j 0 ≡ get_or l j 0
  left j h = ap (λ (x : List ℕ). get_or x j 0) e ∙ get_or-set_other l at j (bit_and (get_or l at 0) (others (c % 8))) 0 h

  -- the cell itself
  itself : cell (list_row n l' t) c ≡ 0
  itself =
      ap (digit (c % 8)) (row_byte n l' t (c / 8) (omega arith) ∙ ap (λ (x : ℕ). get_or l' x 0) (sym place) ∙ stored)
      ∙ bit_cleared (get_or l at 0) (c % 8) (omega arith)

  -- another cell, in the same byte or not
  another : (u d : ℕ) → (t ≡ u → c ≡ d → ⊥) → cell (list_row n l' u) d ≡ cell (list_row n l u) d
  another u d other =
      dite (dec_lt (d / 8) (row_bytes n))
      (λ (h : d / 8 < row_bytes n).
      ap (digit (d % 8)) (row_byte n l' u (d / 8) h) ∙ digits h ∙ sym (ap (digit (d % 8)) (row_byte n l u (d / 8) h)))
      (λ (h : d / 8 < row_bytes n → ⊥).
      let past : row_bytes n ≤ d / 8 = omega arith in
      ap (digit (d % 8)) (row_byte_past n l' u (d / 8) past ∙ sym (row_byte_past n l u (d / 8) past)))
    where
      digits : d / 8 < row_bytes n → digit (d % 8) (get_or l' (row_bytes n * u + d / 8) 0) ≡ digit (d % 8) (get_or l (row_bytes n * u + d / 8) 0)
      digits h =
          dite (ℕ_discrete (row_bytes n * u + d / 8) at)
          (λ (q : row_bytes n * u + d / 8 ≡ at).
          let row : t ≡ u = same_row (row_bytes n) t u (c / 8) (d / 8) (omega arith) h (q ∙ place) in
          let byte : c / 8 ≡ d / 8 = same_byte (row_bytes n) t u (c / 8) (d / 8) row (q ∙ place) in
          ap (λ (x : ℕ). digit (d % 8) (get_or l' x 0)) q ∙ ap (digit (d % 8)) stored
          ∙ bit_left (get_or l at 0) (c % 8) (d % 8) (omega arith) (omega arith) (λ (k : c % 8 ≡ d % 8). other row (omega arith))
          ∙ sym (ap (λ (x : ℕ). digit (d % 8) (get_or l x 0)) q))
          (λ (q : row_bytes n * u + d / 8 ≡ at → ⊥). ap (digit (d % 8)) (left (row_bytes n * u + d / 8) q))

  pub cleared_cell : (u d : ℕ) → cell (list_row n l' u) d ≡ cond (eqb t u && eqb c d) 0 (cell (list_row n l u) d)
  cleared_cell u d =
      chosen_cell t u c d (cell (list_row n l u) d) (cell (list_row n l' u) d)
      (λ et ec. ap₂ (λ (x y : ℕ). cell (list_row n l' x) y) (sym et) (sym ec) ∙ itself) (another u d)

-- ---- entries

and_yes : (b : Bool) → b ≡ (b && true)
and_yes true = refl
and_yes false = refl

-- the cell of an entry whose flag is 0
pub entry_clears : (ties : List ℕ) (k i t c w f u d x y : ℕ) → t ≡ count_at ties (entry_bytes * i) → c ≡ count_at ties (entry_bytes * i + 2) → w ≡ f → w ≡ 0
    → y ≡ cond (eqb t u && eqb c d) 0 x → y ≡ cond (names (ties_in ties k) i u d && eqb f 0) 0 x
unfolding names
entry_clears ties k i t c w f u d x y et ec ew z e =
    let off : eqb f 0 ≡ true = eq-eqb f 0 (sym ew ∙ z) in
    let its : Bool = eqb (count_at ties (entry_bytes * i)) u && eqb (count_at ties (entry_bytes * i + 2)) d in
    e ∙ ap₂ (λ (a b : ℕ). cond {A = ℕ} (eqb a u && eqb b d) 0 x) et ec
    ∙ ap (λ (b : Bool). cond {A = ℕ} b 0 x) (and_yes its ∙ ap (λ (b : Bool). its && b) (sym off))

-- .. of one whose flag isn't
pub entry_leaves : (a : Bool) (w f x : ℕ) → w ≡ f → (w ≡ 0 → ⊥) → x ≡ cond (a && eqb f 0) 0 x
entry_leaves a w f x ew z =
    let on : eqb f 0 ≡ false = ne_eqb f 0 (λ (e : f ≡ 0). z (ew ∙ e)) in
    ap (λ (b : Bool). cond {A = ℕ} b 0 x) (sym (ap (λ (b : Bool). a && b) on ∙ and_none a))

-- the first i entries, and one more
cleared_again : (a b : Bool) (x : ℕ) → cond {A = ℕ} b 0 (cond a 0 x) ≡ cond (a || b) 0 x
cleared_again true true x = refl
cleared_again true false x = refl
cleared_again false b x = refl

pub entries_start : (f : ℕ → Bool) (x : ℕ) → x ≡ cond (any_below 0 f) 0 x
unfolding any_below
entries_start f x = refl

pub entries_turn : (f : ℕ → Bool) (i x y z : ℕ) → y ≡ cond (any_below i f) 0 x → z ≡ cond (f i) 0 y → z ≡ cond (any_below (i + 1) f) 0 x
unfolding any_below
entries_turn f i x y z ey ez =
    ez ∙ ap (cond (f i) 0) ey ∙ cleared_again (any_below i f) (f i) x ∙ ap (λ (k : ℕ). cond {A = ℕ} (any_below k f) 0 x) (sym (add-one i))

pub entries_end : (f : ℕ → Bool) (i n x x' y : ℕ) → y ≡ cond (any_below i f) 0 x → i ≡ n → x ≡ x' → y ≡ cond (any_below n f) 0 x'
entries_end f i n x x' y ey en ex = ey ∙ ap₂ (λ (k v : ℕ). cond {A = ℕ} (any_below k f) 0 v) en ex
