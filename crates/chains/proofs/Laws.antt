-- The laws of chains: what they drive depends on the cells alone, is linear in them and stays within the width; one chain drives its
-- own spread word. Assumes nothing.
use mathlib.Core.Path.{◌≡◌, refl, sym, ap, ap₂, ◌∙◌}
use mathlib.Core.Bool.{Bool, true, false, cond, ◌||◌}
use mathlib.Core.Logic.{⊎_elim, dite}
use mathlib.Core.List.{List, []}
use Prim.Native.Nat.{ℕ, zero, suc, ◌+◌, ◌-◌, ◌*◌, ◌/◌, ◌%◌, ◌^◌, ◌≤◌, ◌<◌}
use native.Mathlib.Numerals.{add-one}
use native.Mathlib.Nat.{zero-mul, add-zero, add-suc, one-mul, eq-or-lt_of_le, le_of_suc-le-suc, le_step, lt-suc_self, not-suc-le-zero}
use native.Mathlib.Decide.{dec_lt}
use native.Mathlib.Omega.{arith}
use borrow.Author.Tests.{eqb-false, eq-eqb, ne_eqb}
use lib.Bits.{bit_xor, bit_or, xor_zero_r, xor_lt, xor_self}
use lib.Dec.{eqb}
use lib.ListN.{length, get_or, take, drop, drop_of_length-le, get_or-eq_default}
use lib.Seq.{drop-cons, get_or-drop, get_or-take}
use lib.Pow.{pow_pos}
use Rattle.word.specs.Word.{digit, beyond}
use Rattle.word.specs.Some.{any_of}
use Rattle.word.specs.Span.{xor_below}
use Rattle.word.specs.Marked.{xor_marked}
use Rattle.word.proofs.Laws.{mod2_lt, xor_assoc}
use Rattle.word.proofs.SomeLaws.{any_of_false}
use Rattle.word.proofs.BoolLaws.{or_false_left, or_false_right}
use Rattle.rows.specs.Row.{Cells, cell}
use Rattle.word.proofs.XorLaws.{xor_below_none, xor_below_suc}
use Rattle.word.proofs.LowestLaws.{digit_past}
use Rattle.numbers.specs.Bytes.{word_at}
use Rattle.rows.proofs.DigitLaws.{word_cell}
use Rattle.chains.specs.Driven.{chosen, driven, bad_spread}
use Rattle.word.proofs.WordLaws.{xor_crosswise, within, not_beyond, beyond_or}

-- ---- a word chosen by a digit

pub chosen_xor : (d e w : ℕ) → d < 2 → e < 2 → chosen ((d + e) % 2) w ≡ bit_xor (chosen d w) (chosen e w)
chosen_xor zero zero w hd he = refl
chosen_xor zero (suc zero) w hd he = refl
chosen_xor zero (suc (suc e)) w hd he = let z : ⊥ = omega arith in absurd z
chosen_xor (suc zero) zero w hd he = sym (xor_zero_r w)
chosen_xor (suc zero) (suc zero) w hd he = sym (xor_self w)
chosen_xor (suc zero) (suc (suc e)) w hd he = let z : ⊥ = omega arith in absurd z
chosen_xor (suc (suc d)) e w hd he = let z : ⊥ = omega arith in absurd z

-- a digit times a word chooses the word
pub times_chosen : (d w : ℕ) → d < 2 → d * w ≡ chosen d w
times_chosen zero w h = zero-mul w
times_chosen (suc zero) w h = one-mul w
times_chosen (suc (suc d)) w h = let z : ⊥ = omega arith in absurd z

pub times_le : (d w : ℕ) → d < 2 → d * w ≤ w
times_le zero w h = omega (arith, zero-mul w)
times_le (suc zero) w h = omega (arith, one-mul w)
times_le (suc (suc d)) w h = let z : ⊥ = omega arith in absurd z

pub chosen_lt : (m d w : ℕ) → w < 2 ^ m → chosen d w < 2 ^ m
chosen_lt m zero w h = pow_pos m
chosen_lt m (suc d) w h = h

-- ---- what the chains drive

pub driven_ext : (ws : List ℕ) (x y : Cells) (n : ℕ) → ((c : ℕ) → c < n → x c ≡ y c) → driven ws x n ≡ driven ws y n
unfolding driven
driven_ext ws x y zero h = refl
driven_ext ws x y (suc n) h =
    ap₂ bit_xor (driven_ext ws x y n (λ c l. h c (le_step l))) (ap (λ (d : ℕ). chosen d (get_or ws n 0)) (h n (lt-suc_self n)))

pub driven_zero : (ws : List ℕ) (n : ℕ) → driven ws (λ c. 0) n ≡ 0
unfolding driven
driven_zero ws zero = refl
driven_zero ws (suc n) = xor_zero_r _ ∙ driven_zero ws n

pub driven_none : (ws : List ℕ) (x : Cells) → driven ws x 0 ≡ 0
unfolding driven
driven_none ws x = refl

pub driven_suc : (ws : List ℕ) (x : Cells) (n : ℕ) → driven ws x (suc n) ≡ bit_xor (driven ws x n) (chosen (x n) (get_or ws n 0))
unfolding driven
driven_suc ws x n = refl

pub driven_lt : (m : ℕ) (ws : List ℕ) (x : Cells) (n : ℕ) → ((c : ℕ) → get_or ws c 0 < 2 ^ m) → driven ws x n < 2 ^ m
unfolding driven
driven_lt m ws x zero h = pow_pos m
driven_lt m ws x (suc n) h = xor_lt m _ _ (driven_lt m ws x n h) (chosen_lt m (x n) (get_or ws n 0) (h n))

pub driven_xor : (ws : List ℕ) (x y : Cells) (n : ℕ) → ((c : ℕ) → x c < 2) → ((c : ℕ) → y c < 2)
    → driven ws (λ c. (x c + y c) % 2) n ≡ bit_xor (driven ws x n) (driven ws y n)
unfolding driven
driven_xor ws x y zero hx hy = refl
driven_xor ws x y (suc n) hx hy =
    ap₂ bit_xor (driven_xor ws x y n hx hy) (chosen_xor (x n) (y n) (get_or ws n 0) (hx n) (hy n))
    ∙ xor_crosswise (driven ws x n) (driven ws y n) (chosen (x n) (get_or ws n 0)) (chosen (y n) (get_or ws n 0))

-- the cells of a slice in which chain c alone has a 1
abbrev unit : ℕ → Cells
unit c d = cond (eqb d c) 1 0

unit_same : (c : ℕ) → unit c c ≡ 1
unit_same c = rw (eq-eqb c c refl)

unit_other : (c d : ℕ) → (d ≡ c → ⊥) → unit c d ≡ 0
unit_other c d h = rw (ne_eqb d c h)

pub driven_unit : (ws : List ℕ) (c n : ℕ) → c < n → driven ws (λ d. cond (eqb d c) 1 0) n ≡ get_or ws c 0
driven_unit ws c zero h = absurd (not-suc-le-zero h)
driven_unit ws c (suc n) h =
    ⊎_elim last (λ (l : c < n). below l (driven_unit ws c n l)) (eq-or-lt_of_le (le_of_suc-le-suc h))
  where
    below : c < n → driven ws (unit c) n ≡ get_or ws c 0 → driven ws (unit c) (suc n) ≡ get_or ws c 0
    below l ih =
        driven_suc ws (unit c) n
        ∙ ap₂ bit_xor ih (ap (λ (d : ℕ). chosen d (get_or ws n 0)) (unit_other c n (λ (e : n ≡ c). omega arith)))
        ∙ xor_zero_r (get_or ws c 0)

    last : c ≡ n → driven ws (unit c) (suc n) ≡ get_or ws c 0
    last e =
        driven_suc ws (unit c) n
        ∙ ap₂ bit_xor (driven_ext ws (unit c) (λ d. 0) n (λ d l. unit_other c d (λ (f : d ≡ c). omega arith)) ∙ driven_zero ws n)
        (ap (λ (d : ℕ). chosen (unit c d) (get_or ws d 0)) (sym e) ∙ ap (λ (d : ℕ). chosen d (get_or ws c 0)) (unit_same c))

-- ---- what the chains drive, in parts

pub chosen_zero : (d w : ℕ) → w ≡ 0 → chosen d w ≡ 0
chosen_zero zero w e = refl
chosen_zero (suc d) w e = e

pub driven_add : (ws : List ℕ) (x : Cells) (c j : ℕ) → driven ws x (c + j) ≡ bit_xor (driven ws x c) (driven (drop c ws) (λ i. x (c + i)) j)
unfolding driven
driven_add ws x c zero = ap (driven ws x) (add-zero c) ∙ sym (xor_zero_r (driven ws x c))
driven_add ws x c (suc j) =
    ap (driven ws x) (add-suc c j)
    ∙ ap₂ bit_xor (driven_add ws x c j) (ap (chosen (x (c + j))) (sym (get_or-drop c ws j 0)))
    ∙ xor_assoc (driven ws x c) (driven (drop c ws) (λ i. x (c + i)) j) (chosen (x (c + j)) (get_or (drop c ws) j 0))

pub driven_stops : (ws : List ℕ) (x : Cells) (a j : ℕ) → ((c : ℕ) → a ≤ c → chosen (x c) (get_or ws c 0) ≡ 0) → driven ws x (a + j) ≡ driven ws x a
unfolding driven
driven_stops ws x a zero h = ap (driven ws x) (add-zero a)
driven_stops ws x a (suc j) h =
    ap (driven ws x) (add-suc a j) ∙ ap₂ bit_xor (driven_stops ws x a j h) (h (a + j) (omega arith)) ∙ xor_zero_r (driven ws x a)

pub driven_words_ext : (ws vs : List ℕ) (x : Cells) (n : ℕ) → ((c : ℕ) → c < n → get_or ws c 0 ≡ get_or vs c 0) → driven ws x n ≡ driven vs x n
unfolding driven
driven_words_ext ws vs x zero h = refl
driven_words_ext ws vs x (suc n) h =
    ap₂ bit_xor (driven_words_ext ws vs x n (λ c l. h c (omega arith))) (ap (chosen (x n)) (h n (omega arith)))

-- ---- what the chains drive, 64 cells at a time

-- the words that the bits of a word mark are those that cells with these bits choose
pub marked_driven : (ws : List ℕ) (w : ℕ) → xor_marked ws w ≡ driven ws (λ c. digit c w) (length ws)
unfolding xor_marked
marked_driven ws w = go (length ws)
  where
    go : (n : ℕ) → xor_below n (λ c. digit c w * get_or ws c 0) ≡ driven ws (λ c. digit c w) n
    go zero = xor_below_none (λ c. digit c w * get_or ws c 0) ∙ sym (driven_none ws (λ c. digit c w))
    go (suc n) =
        xor_below_suc n (λ c. digit c w * get_or ws c 0)
        ∙ ap₂ bit_xor (go n) (times_chosen (digit n w) (get_or ws n 0) (mod2_lt (w / 2 ^ n))) ∙ sym (driven_suc ws (λ c. digit c w) n)

-- .. as far as the list goes, and as far as the word does
marked_64 : (ws : List ℕ) (w : ℕ) → w < 2 ^ 64 → xor_marked ws w ≡ driven ws (λ c. digit c w) 64
marked_64 ws w h =
    let both : length ws + 64 ≡ 64 + length ws = omega arith in
    marked_driven ws w
    ∙ sym (driven_stops ws (λ c. digit c w) (length ws) 64 (λ c l. chosen_zero (digit c w) (get_or ws c 0) (get_or-eq_default ws 0 l)))
    ∙ ap (driven ws (λ c. digit c w)) both
    ∙ driven_stops ws (λ c. digit c w) 64 (length ws) (λ c l. ap (λ (d : ℕ). chosen d (get_or ws c 0)) (digit_past 64 w c h l))

-- .. of the first 64 words of a list
marked_front : (ws : List ℕ) (w : ℕ) → w < 2 ^ 64 → xor_marked (take 64 ws) w ≡ driven ws (λ c. digit c w) 64
marked_front ws w h =
    marked_64 (take 64 ws) w h ∙ driven_words_ext (take 64 ws) ws (λ c. digit c w) 64 (λ c l. get_or-take 64 ws c 0 l)

-- 64 chains more
pub driven_turn : (ws row part : List ℕ) → ((i : ℕ) → get_or row i 0 < 256) → (i marks drive r : ℕ) → drive ≡ driven ws (cell row) (64 * i)
    → marks ≡ word_at row (8 * i) → marks < 2 ^ 64 → part ≡ take 64 (drop (64 * i) ws) → r ≡ xor_marked part marks
    → bit_xor drive r ≡ driven ws (cell row) (64 * (i + 1))
driven_turn ws row part bytes i marks drive r ed em h ep er =
    let next : 64 * i + 64 ≡ 64 * (i + 1) = omega arith in
    ap₂ bit_xor ed
    (er ∙ ap (λ (l : List ℕ). xor_marked l marks) ep ∙ marked_front (drop (64 * i) ws) marks h
    ∙ driven_ext (drop (64 * i) ws) (λ c. digit c marks) (λ c. cell row (64 * i + c)) 64 (λ c l. ap (digit c) em ∙ word_cell row bytes i c l))
    ∙ sym (driven_add ws (cell row) (64 * i) 64) ∙ ap (driven ws (cell row)) next

-- all of them
pub driven_ends : (ws row : List ℕ) (i drive : ℕ) → length ws ≤ 64 * i → drive ≡ driven ws (cell row) (64 * i) → drive ≡ driven ws (cell row) (length ws)
driven_ends ws row i drive h e =
    let whole : 64 * i ≡ length ws + (64 * i - length ws) = omega arith in
    e ∙ ap (driven ws (cell row)) whole
    ∙ driven_stops ws (cell row) (length ws) (64 * i - length ws) (λ c l. chosen_zero (cell row c) (get_or ws c 0) (get_or-eq_default ws 0 l))

-- ---- spread words that are taken

pub bad_spread_none : (m : ℕ) → bad_spread m [] ≡ false
unfolding bad_spread any_of
bad_spread_none m = refl

-- the spread words from chain c on: chain c's, and those after it
pub bad_spread_from : (m : ℕ) (ws : List ℕ) (c : ℕ) → c < length ws
    → bad_spread m (drop c ws) ≡ ((eqb (get_or ws c 0) 0 || beyond m (get_or ws c 0)) || bad_spread m (drop (suc c) ws))
unfolding bad_spread any_of
bad_spread_from m ws c l = rw (drop-cons ws c 0 l)

-- what the loop over the words knows: one of the words before c is 0 (`none`) or has a bit at or above m, as their OR (`seen`) then has, or
-- one from c on is bad
pub folded_starts : (m : ℕ) (ws : List ℕ) → ((false || beyond m 0) || bad_spread m ws) ≡ bad_spread m ws
folded_starts m ws = ap (λ (b : Bool). b || bad_spread m ws) (not_beyond m 0 (pow_pos m))

pub folded_turns : (m : ℕ) (ws : List ℕ) (none : Bool) (seen c : ℕ) → c < length ws
    → ((none || beyond m seen) || bad_spread m (drop c ws)) ≡ bad_spread m ws
    → (((none || eqb (get_or ws c 0) 0) || beyond m (bit_or seen (get_or ws c 0))) || bad_spread m (drop (c + 1) ws)) ≡ bad_spread m ws
folded_turns m ws none seen c l k =
    ap₂ (λ (b : Bool) (i : ℕ). ((none || eqb (get_or ws c 0) 0) || b) || bad_spread m (drop i ws)) (beyond_or m seen (get_or ws c 0)) (add-one c)
    ∙ moved none (eqb (get_or ws c 0) 0) (beyond m seen) (beyond m (get_or ws c 0)) (bad_spread m (drop (suc c) ws))
    ∙ sym (ap (λ (b : Bool). (none || beyond m seen) || b) (bad_spread_from m ws c l)) ∙ k
  where
    moved : (n z s w r : Bool) → (((n || z) || (s || w)) || r) ≡ ((n || s) || ((z || w) || r))
    moved true z s w r = refl
    moved false true true w r = refl
    moved false true false w r = refl
    moved false false true w r = refl
    moved false false false w r = refl

pub folded_ends : (m : ℕ) (ws : List ℕ) (none : Bool) (seen c : ℕ) → length ws ≤ c
    → ((none || beyond m seen) || bad_spread m (drop c ws)) ≡ bad_spread m ws → (none || beyond m seen) ≡ bad_spread m ws
folded_ends m ws none seen c l k =
    sym
    (ap (λ (b : Bool). (none || beyond m seen) || b) (ap (bad_spread m) (drop_of_length-le ws l) ∙ bad_spread_none m) ∙ or_false (none || beyond m seen))
    ∙ k
  where
    or_false : (b : Bool) → (b || false) ≡ b
    or_false true = refl
    or_false false = refl

good_spread_word : (m : ℕ) (ws : List ℕ) → bad_spread m ws ≡ false → (c : ℕ) → c < length ws → (eqb (get_or ws c 0) 0 || beyond m (get_or ws c 0)) ≡ false
unfolding bad_spread
good_spread_word m ws h c l = any_of_false (λ (w : ℕ). eqb w 0 || beyond m w) 0 ws h c l

pub good_spread : (m : ℕ) (ws : List ℕ) → bad_spread m ws ≡ false → (c : ℕ) → get_or ws c 0 < 2 ^ m
good_spread m ws h c = dite (dec_lt c (length ws)) inside past
  where
    inside : c < length ws → get_or ws c 0 < 2 ^ m
    inside l =
        within m (get_or ws c 0) (or_false_right (eqb (get_or ws c 0) 0) (beyond m (get_or ws c 0)) (good_spread_word m ws h c l))

    past : (c < length ws → ⊥) → get_or ws c 0 < 2 ^ m
    past l = let end : length ws ≤ c = omega arith in rw (get_or-eq_default ws 0 end) (pow_pos m)

pub good_spread_not_zero : (m : ℕ) (ws : List ℕ) → bad_spread m ws ≡ false → (c : ℕ) → c < length ws → get_or ws c 0 ≡ 0 → ⊥
good_spread_not_zero m ws h c l =
    eqb-false (get_or ws c 0) 0 (or_false_left (eqb (get_or ws c 0) 0) (beyond m (get_or ws c 0)) (good_spread_word m ws h c l))
