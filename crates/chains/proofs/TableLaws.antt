-- A table of words for half bytes: how its entries follow from each other, and that the entries of a row's half bytes add up to
-- what the chains drive. Assumes nothing.
use mathlib.Core.Path.{◌≡◌, refl, sym, ap, ap₂, subst, ◌∙◌}
use mathlib.Core.Bool.{Bool, true, false, cond, not, ◌&&◌}
use mathlib.Core.Logic.{dite}
use mathlib.Core.List.{List, []}
use Prim.Native.Nat.{ℕ, zero, suc, ◌+◌, ◌-◌, ◌*◌, ◌/◌, ◌%◌, ◌^◌, ◌≤◌, ◌<◌, min}
use native.Mathlib.Nat.{add_assoc}
use native.Mathlib.Numerals.{add-one}
use native.Mathlib.Decide.{dec_le, dec_lt}
use native.Mathlib.Omega.{arith}
use borrow.Author.Tests.{eqb-true, not-false, lt-ltb}
use lib.Bits.{bit_xor}
use lib.Dec.{eqb, ltb}
use lib.ListN.{length, length-take, take, drop, get_or, replicate, get_or-replicate, length-replicate, drop_of_length-le, get_or-eq_default}
use lib.Seq.{get_or-drop, get_or-take}
use lib.Pow.{shr-shr}
use Rattle.word.specs.Word.{digit}
use Rattle.word.specs.Some.{any_below}
use Rattle.word.specs.Doubled.{Doubled}
use Rattle.word.proofs.Laws.{mod2_lt, xor_assoc}
use Rattle.word.proofs.SomeLaws.{any_below_false}
use Rattle.rows.specs.Row.{cell}
use Rattle.chains.specs.Driven.{chosen, driven}
use Rattle.chains.proofs.Laws.{driven_ext, driven_none, driven_xor, driven_unit, chosen_zero, driven_add, driven_stops, driven_words_ext}
use Rattle.chains.specs.Table.{half_byte, HalfBytes, table_end, looked_byte, looked_up}
use Rattle.rows.proofs.CellLaws.{byte_cell, cell_past}

-- ---- facts of half bytes, each computed for all of them

-- a half byte with highest bit k is what lies below that bit, and the bit
lacks : ℕ → ℕ → ℕ → Bool
lacks k j c = ltb j (2 ^ k) && not (eqb (digit c (2 ^ k + j)) ((digit c j + cond (eqb c k) 1 0) % 2))

none_lacks : any_below 4 (λ k. any_below 8 (λ j. any_below 4 (lacks k j))) ≡ false
unfolding any_below lacks
none_lacks = refl

top_digit : (k j c : ℕ) → k < 4 → j < 2 ^ k → j < 8 → c < 4 → digit c (2 ^ k + j) ≡ (digit c j + cond (eqb c k) 1 0) % 2
unfolding lacks
top_digit k j c hk hj h8 hc =
    eqb-true _ _
    (not-false _
    (rw (lt-ltb j (2 ^ k) hj) at
    (any_below_false 4 (lacks k j)
    (any_below_false 8 (λ j. any_below 4 (lacks k j))
    (any_below_false 4 (λ k. any_below 8 (λ j. any_below 4 (lacks k j))) none_lacks k hk) j h8) c hc)))

-- the low half of a byte has the byte's low digits
high_left : ℕ → ℕ → Bool
high_left b c = not (eqb (digit c (b % 16)) (digit c b))

none_high_left : any_below 256 (λ b. any_below 4 (high_left b)) ≡ false
unfolding any_below high_left
none_high_left = refl

low_digit : (b c : ℕ) → b < 256 → c < 4 → digit c (b % 16) ≡ digit c b
unfolding high_left
low_digit b c hb hc =
    eqb-true _ _ (not-false _ (any_below_false 4 (high_left b) (any_below_false 256 (λ b. any_below 4 (high_left b)) none_high_left b hb) c hc))

high_digit : (b c : ℕ) → digit c (b / 16) ≡ digit (4 + c) b
high_digit b c = ap (λ (x : ℕ). x % 2) (shr-shr b 4 c)

-- ---- the entries of the table

-- four chains drive what they drive without the highest bit, and that bit's word
half_driven : (ws : List ℕ) (k j : ℕ) → k < 4 → j < 2 ^ k → j < 8
    → driven ws (λ i. digit i (2 ^ k + j)) 4 ≡ bit_xor (driven ws (λ i. digit i j) 4) (get_or ws k 0)
half_driven ws k j hk hj h8 =
    driven_ext ws (λ i. digit i (2 ^ k + j)) (λ i. (digit i j + cond (eqb i k) 1 0) % 2) 4 (λ i m. top_digit k j i hk hj h8 m)
    ∙ driven_xor ws (λ i. digit i j) (λ i. cond (eqb i k) 1 0) 4 (λ i. mod2_lt (j / 2 ^ i)) (λ i. unit_lt (eqb i k))
    ∙ ap (bit_xor (driven ws (λ i. digit i j) 4)) (driven_unit ws k 4 hk)
  where
    unit_lt : (b : Bool) → cond {A = ℕ} b 1 0 < 2
    unit_lt true = omega arith
    unit_lt false = omega arith

module _ (ws : List ℕ) where
  half_byte_none : (e : ℕ) → e % 16 ≡ 0 → half_byte ws e ≡ 0
  unfolding half_byte driven
  half_byte_none e h = rw h

  -- entry e + h + j of the group of entries from e on, for j below h = 2 ^ k: entry e + j and the word of the group's chain k
  half_byte_next : (e k h j : ℕ) → k < 4 → h ≡ 2 ^ k → h ≤ 8 → j < h → e % 16 ≡ 0
      → half_byte ws (e + h + j) ≡ bit_xor (half_byte ws (e + j)) (get_or ws (e / 4 + k) 0)
  unfolding half_byte
  half_byte_next e k h j hk hh h8 hj h0 =
      let group : 4 * ((e + h + j) / 16) ≡ e / 4 = omega arith in
      let half : (e + h + j) % 16 ≡ 2 ^ k + j = omega arith in
      let group' : e / 4 ≡ 4 * ((e + j) / 16) = omega arith in
      let half' : j ≡ (e + j) % 16 = omega arith in
      ap₂ (λ (g x : ℕ). driven (drop g ws) (λ i. digit i x) 4) group half
      ∙ half_driven (drop (e / 4) ws) k j hk (omega arith) (omega arith)
      ∙ ap₂ bit_xor (ap₂ (λ (g x : ℕ). driven (drop g ws) (λ i. digit i x) 4) group' half') (get_or-drop (e / 4) ws k 0)

  -- the chains of a group that isn't there drive nothing
  half_byte_past : (e : ℕ) → length ws ≤ 4 * (e / 16) → half_byte ws e ≡ 0
  unfolding half_byte
  half_byte_past e h =
      ap (λ (l : List ℕ). driven l (λ i. digit i (e % 16)) 4) (drop_of_length-le ws h)
      ∙ driven_stops [] (λ i. digit i (e % 16)) 0 4 (λ c l. chosen_zero (digit c (e % 16)) 0 refl) ∙ driven_none [] (λ i. digit i (e % 16))

  -- ---- the loop that makes the table

  -- what the loop knows: the entries below e are right, and the others are 0
  pub Made : List ℕ → ℕ → Type 0
  Made table e =
      (length table ≡ 1024) × ((i : ℕ) → i < e → get_or table i 0 ≡ half_byte ws i) × ((i : ℕ) → e ≤ i → get_or table i 0 ≡ 0)

  pub made_length : (table : List ℕ) (e : ℕ) → Made table e → length table ≡ 1024
  unfolding Made
  made_length table e k = k.0

  pub made_starts : (table : List ℕ) → table ≡ replicate 1024 0 → Made table 0
  unfolding Made
  made_starts table h = (
    ap length h ∙ length-replicate {A = ℕ} 1024 0,
    (λ i l. let z : ⊥ = omega arith in absurd z),
    (λ i l. ap (λ (x : List ℕ). get_or x i 0) h ∙ zeros i),
  )
    where
      zeros : (i : ℕ) → ◌≡◌ {A = ℕ} (get_or (replicate 1024 0) i 0) 0
      zeros i =
          dite (dec_lt i 1024) (λ (l : i < 1024). get_or-replicate 1024 i 0 0 l)
          (λ (l : i < 1024 → ⊥). get_or-eq_default (replicate 1024 0) 0 {n = i} (omega (arith, length-replicate {A = ℕ} 1024 0)))

  -- the first entry of a group is 0
  pub made_first : (table : List ℕ) (e : ℕ) → e % 16 ≡ 0 → Made table e → Made table (e + 1)
  unfolding Made
  made_first table e h k = (
    k.0,
    (λ i l.
        dite (dec_lt i e) (k.1 i)
        (λ (z : i < e → ⊥). let here : i ≡ e = omega arith in k.2 i (omega arith) ∙ sym (ap (half_byte ws) here ∙ half_byte_none e h))),
    (λ i l. k.2 i (omega arith)),
  )

  -- as many entries more as the group has
  made_doubles : (table made : List ℕ) (e k h w : ℕ) → k < 4 → h ≡ 2 ^ k → h ≤ 8 → e % 16 ≡ 0 → w ≡ get_or ws (e / 4 + k) 0 → Made table (e + h)
      → Doubled table made e h h w → Made made (e + h + h)
  unfolding Made
  made_doubles table made e k h w hk hh h8 h0 ew m d = (
    d.long ∙ m.0,
    (λ i l. dite (dec_lt i (e + h)) (λ (z : i < e + h). d.below i z ∙ m.1 i z) (λ (z : i < e + h → ⊥). new i (omega arith) l)),
    (λ i l. d.above i l ∙ m.2 i (omega arith)),
  )
    where
      new : (i : ℕ) → e + h ≤ i → i < e + h + h → get_or made i 0 ≡ half_byte ws i
      new i a b =
          let from : i - h ≡ e + (i - (e + h)) = omega arith in
          let here : e + h + (i - (e + h)) ≡ i = omega arith in
          d.new i a b ∙ ap₂ bit_xor (m.1 (i - h) (omega arith) ∙ ap (half_byte ws) from) ew
          ∙ sym (half_byte_next e k h (i - (e + h)) hk hh h8 (omega arith) h0) ∙ ap (half_byte ws) here

  -- the sixteen entries of group g
  pub made_group : (t t1 t2 t3 t4 : List ℕ) (g w0 w1 w2 w3 : ℕ) → Made t (16 * g) → w0 ≡ get_or ws (4 * g) 0
      → w1 ≡ get_or ws (4 * g + 1) 0 → w2 ≡ get_or ws (4 * g + 2) 0 → w3 ≡ get_or ws (4 * g + 3) 0 → Doubled t t1 (16 * g) 1 1 w0
      → Doubled t1 t2 (16 * g) 2 2 w1 → Doubled t2 t3 (16 * g) 4 4 w2 → Doubled t3 t4 (16 * g) 8 8 w3 → Made t4 (16 * (g + 1))
  made_group t t1 t2 t3 t4 g w0 w1 w2 w3 m e0 e1 e2 e3 d1 d2 d3 d4 =
      let whole : 16 * g % 16 ≡ 0 = omega arith in
      let m1 = made_doubles t t1 (16 * g) 0 1 w0 (omega arith) refl (omega arith) whole (e0 ∙ word 0 _ (omega arith)) (made_first t (16 * g) whole m) d1 in
      let m2 = made_doubles t1 t2 (16 * g) 1 2 w1 (omega arith) refl (omega arith) whole (e1 ∙ word 1 _ (omega arith)) (to t1 _ _ (omega arith) m1) d2 in
      let m3 = made_doubles t2 t3 (16 * g) 2 4 w2 (omega arith) refl (omega arith) whole (e2 ∙ word 2 _ (omega arith)) (to t2 _ _ (omega arith) m2) d3 in
      let m4 = made_doubles t3 t4 (16 * g) 3 8 w3 (omega arith) refl (omega arith) whole (e3 ∙ word 3 _ (omega arith)) (to t3 _ _ (omega arith) m3) d4 in
      to t4 _ _ (omega arith) m4
    where
      to : (l : List ℕ) (a b : ℕ) → a ≡ b → Made l a → Made l b
      to l a b e k = subst (Made l) e k

      word : (k i : ℕ) → i ≡ 16 * g / 4 + k → get_or ws i 0 ≡ get_or ws (16 * g / 4 + k) 0
      word k i e = ap (λ (x : ℕ). get_or ws x 0) e

  pub made_ends : (table : List ℕ) (e : ℕ) → Made table e → e ≡ table_end (length ws) → (i : ℕ) → i < 1024 → get_or table i 0 ≡ half_byte ws i
  unfolding Made
  made_ends table e k h i l =
      dite (dec_lt i e) (k.1 i) (λ (z : i < e → ⊥). k.2 i (omega arith) ∙ sym (half_byte_past i (omega arith)))

-- ---- the entries of a row's half bytes

pub looked_none : (table row : List ℕ) → looked_up table row 0 ≡ 0
unfolding looked_up
looked_none table row = refl

-- one byte more
looked_next : (table row : List ℕ) (i : ℕ) → bit_xor (looked_up table row i) (looked_byte table row i) ≡ looked_up table row (i + 1)
unfolding looked_up
looked_next table row i = sym (xor_assoc (looked_up table row i) _ _) ∙ ap (looked_up table row) (sym (add-one i))

-- .. behind what was looked up from some byte on, here a drive d that makes the XOR of the first bytes w that of the first i
pub looked_turn : (table row : List ℕ) (i w d b : ℕ) → bit_xor w d ≡ looked_up table row i → b ≡ looked_byte table row i
    → bit_xor w (bit_xor d b) ≡ looked_up table row (i + 1)
looked_turn table row i w d b ed eb = sym (xor_assoc w d b) ∙ ap₂ bit_xor ed eb ∙ looked_next table row i

pub looked_eight : (table row : List ℕ) (i b0 b1 b2 b3 b4 b5 b6 b7 : ℕ) → b0 ≡ looked_byte table row i
    → b1 ≡ looked_byte table row (i + 1) → b2 ≡ looked_byte table row (i + 2)
    → b3 ≡ looked_byte table row (i + 3) → b4 ≡ looked_byte table row (i + 4)
    → b5 ≡ looked_byte table row (i + 5) → b6 ≡ looked_byte table row (i + 6)
    → b7 ≡ looked_byte table row (i + 7)
    → bit_xor (looked_up table row i) (bit_xor (bit_xor (bit_xor (bit_xor (bit_xor (bit_xor (bit_xor b0 b1) b2) b3) b4) b5) b6) b7) ≡ looked_up table row (i + 8)
looked_eight table row i b0 b1 b2 b3 b4 b5 b6 b7 e0 e1 e2 e3 e4 e5 e6 e7 =
    let t1 = ap (bit_xor (looked_up table row i)) e0 ∙ looked_next table row i in
    let t2 = on (i + 1) (i + 2) _ _ t1 e1 (omega arith) in
    let t3 = on (i + 2) (i + 3) _ _ t2 e2 (omega arith) in
    let t4 = on (i + 3) (i + 4) _ _ t3 e3 (omega arith) in
    let t5 = on (i + 4) (i + 5) _ _ t4 e4 (omega arith) in
    let t6 = on (i + 5) (i + 6) _ _ t5 e5 (omega arith) in
    let t7 = on (i + 6) (i + 7) _ _ t6 e6 (omega arith) in
    on (i + 7) (i + 8) _ _ t7 e7 (omega arith)
  where
    on : (k n d b : ℕ) → bit_xor (looked_up table row i) d ≡ looked_up table row k → b ≡ looked_byte table row k → k + 1 ≡ n
        → bit_xor (looked_up table row i) (bit_xor d b) ≡ looked_up table row n
    on k n d b ed eb en = looked_turn table row k (looked_up table row i) d b ed eb ∙ ap (looked_up table row) en

module _ (ws table row : List ℕ) (right : HalfBytes ws table) (byte : (i : ℕ) → get_or row i 0 < 256) where
  low_half : (i : ℕ) → i < 32 → get_or table (32 * i + get_or row i 0 % 16) 0 ≡ driven (drop (8 * i) ws) (λ k. cell row (8 * i + k)) 4
  unfolding half_byte
  low_half i h =
      let group : 4 * ((32 * i + get_or row i 0 % 16) / 16) ≡ 8 * i = omega arith in
      let half : (32 * i + get_or row i 0 % 16) % 16 ≡ get_or row i 0 % 16 = omega arith in
      right (32 * i + get_or row i 0 % 16) (omega arith)
      ∙ ap₂ (λ (g j : ℕ). driven (drop g ws) (λ k. digit k j) 4) group half
      ∙ driven_ext (drop (8 * i) ws) (λ k. digit k (get_or row i 0 % 16)) (λ k. cell row (8 * i + k)) 4
      (λ k m. low_digit (get_or row i 0) k (byte i) m ∙ sym (byte_cell row i k (omega arith)))

  high_half : (i : ℕ) → i < 32 → get_or table (32 * i + 16 + get_or row i 0 / 16) 0 ≡ driven (drop (8 * i + 4) ws) (λ k. cell row (8 * i + 4 + k)) 4
  unfolding half_byte
  high_half i h =
      let group : 4 * ((32 * i + 16 + get_or row i 0 / 16) / 16) ≡ 8 * i + 4 = omega (arith, byte i) in
      let half : (32 * i + 16 + get_or row i 0 / 16) % 16 ≡ get_or row i 0 / 16 = omega (arith, byte i) in
      right (32 * i + 16 + get_or row i 0 / 16) (omega (arith, byte i))
      ∙ ap₂ (λ (g j : ℕ). driven (drop g ws) (λ k. digit k j) 4) group half
      ∙ driven_ext (drop (8 * i + 4) ws) (λ k. digit k (get_or row i 0 / 16)) (λ k. cell row (8 * i + 4 + k)) 4
      (λ k m. high_digit (get_or row i 0) k ∙ sym (byte_cell row i (4 + k) (omega arith)) ∙ ap (cell row) (sym (add_assoc (8 * i) 4 k)))

  looked_driven : (i : ℕ) → i ≤ 32 → looked_up table row i ≡ driven ws (cell row) (8 * i)
  unfolding looked_up
  looked_driven zero h = sym (driven_none ws (cell row))
  looked_driven (suc i) h =
      let next : 8 * i + 4 + 4 ≡ 8 * suc i = omega arith in
      ap₂ bit_xor
      (ap₂ bit_xor (looked_driven i (omega arith)) (low_half i (omega arith)) ∙ sym (driven_add ws (cell row) (8 * i) 4))
      (high_half i (omega arith))
      ∙ sym (driven_add ws (cell row) (8 * i + 4) 4) ∙ ap (driven ws (cell row)) next

  -- the table's entries for a row add up to what the chains drive
  looked_drives : length ws ≤ 256 → (k : ℕ) → k ≡ min (length row) 32 → looked_up table row k ≡ driven ws (cell row) (length ws)
  looked_drives h k e =
      let both : 8 * k + length ws ≡ length ws + 8 * k = omega arith in
      looked_driven k (omega arith) ∙ sym (driven_stops ws (cell row) (8 * k) (length ws) bytes_end)
      ∙ ap (driven ws (cell row)) both ∙ driven_stops ws (cell row) (length ws) (8 * k) chains_end
    where
      chains_end : (c : ℕ) → length ws ≤ c → chosen (cell row c) (get_or ws c 0) ≡ 0
      chains_end c l = chosen_zero (cell row c) (get_or ws c 0) (get_or-eq_default ws 0 l)

      bytes_end : (c : ℕ) → 8 * k ≤ c → chosen (cell row c) (get_or ws c 0) ≡ 0
      bytes_end c l =
          dite (dec_le (length ws) c) (chains_end c)
          (λ (n : length ws ≤ c → ⊥). ap (λ (d : ℕ). chosen d (get_or ws c 0)) (cell_past row c (omega arith)))

-- a table of the first 256 words has the same entries
half_byte_take : (ws : List ℕ) (e : ℕ) → e < 1024 → half_byte ws e ≡ half_byte (take 256 ws) e
unfolding half_byte
half_byte_take ws e h =
    driven_words_ext (drop (4 * (e / 16)) ws) (drop (4 * (e / 16)) (take 256 ws)) (λ i. digit i (e % 16)) 4
    (λ c l.
    get_or-drop (4 * (e / 16)) ws c 0 ∙ sym (get_or-take 256 ws (4 * (e / 16) + c) 0 (omega arith)) ∙ sym (get_or-drop (4 * (e / 16)) (take 256 ws) c 0))

-- the table's entries for a row add up to what the first 256 chains drive
pub table_drives : (ws table row : List ℕ) → HalfBytes ws table → ((i : ℕ) → get_or row i 0 < 256)
    → looked_up table row (min (length row) 32) ≡ driven (take 256 ws) (cell row) (length (take 256 ws))
table_drives ws table row right byte =
    looked_drives (take 256 ws) table row (λ e h. right e h ∙ half_byte_take ws e h) byte (omega (arith, length-take 256 ws))
    (min (length row) 32) refl
