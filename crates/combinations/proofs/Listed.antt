-- The reduced list as document 01 goes through the bits: its words have ascending highest bits, each clear in the others, and
-- their XORs are the X-free combinations. Assumes nothing.
use mathlib.Core.Path.{◌≡◌, refl, sym, ap, ap₂, ◌∙◌, subst}
use mathlib.Core.Bool.{Bool, true, false, cond, ◌&&◌}
use mathlib.Core.Logic.{◌⊎◌, inl, inr, ⊎_elim}
use mathlib.Core.List.{List, [], ◌∷◌, ◌++◌, map}
use mathlib.Core.Option.{Option, none, some}
use Prim.Native.Nat.{ℕ, zero, suc, ◌+◌, ◌/◌, ◌%◌, ◌^◌, ◌<◌, zero-le}
use native.Mathlib.Nat.{lt_of_lt_of_le, le-suc, le_refl, not-suc-le-zero}
use lib.Arith.{lt-one}
use native.Mathlib.Omega.{arith}
use lib.Bits.{bit_xor, xor_comm, xor_lt, xor_shr}
use lib.Dec.{eqb}
use lib.Pow.{pow_pos, pow_mono, pow-lt}
use Rattle.word.specs.Word.{parity}
use Rattle.word.specs.Some.{all_of}
use Rattle.word.proofs.Laws.{xor_cancel, xor_cancel_right, xor_assoc, xor_left_comm, xor_zero_eq, parity_xor, parity_pow, digit_xor}
use Rattle.combinations.specs.Combination.{x_free}
use Rattle.word.specs.Span.{is_xor_of}
use Rattle.combinations.specs.Reduced.{row, xor_rows, with_bit, or_else, made, kept_bit, independent, kept_word, words_below, reduced_list}
use Rattle.combinations.proofs.XFree.{x_free_xor, x_free_zero}
use Rattle.word.proofs.BoolLaws.{iff_eq, true_not_false}
use Rattle.word.proofs.SpanLaws.{both_with, xor_of_cases, xor_of_nil, xor_of_tail, xor_of_with, xor_of_zero, xor_of_head, xor_of_join, xor_of_split, xor_of_left, xor_of_right, xor_of_one}
use Rattle.combinations.proofs.Tops.{ClearIn, clear_nil, clear_cons, clear_append, Tops, tops_nil, tops_snoc, tops_wider, IsTop, top_here, top_later, top_under, one_top, below_shr, span_clear}
use Rattle.combinations.proofs.Units.{power_top, power_digit, by_top_bit}

-- the words of single bits js, and the row of a combination z
abbrev bits : List ℕ → List ℕ
bits js = map (λ j. 2 ^ j) js

row_of : List ℕ → ℕ → List ℕ
row_of [] z = []
row_of (c ∷ cs) z = parity z c ∷ row_of cs z

row_of_bit : (cs : List ℕ) (i : ℕ) → row cs i ≡ row_of cs (2 ^ i)
unfolding row_of
row_of_bit [] i = refl
row_of_bit (c ∷ cs) i = ap₂ ◌∷◌ (sym (parity_pow i c)) (row_of_bit cs i)

xor_rows_lem : (cs : List ℕ) (j z : ℕ) → xor_rows (row cs j) (row_of cs z) ≡ row_of cs (bit_xor (2 ^ j) z)
unfolding row_of xor_rows
xor_rows_lem [] j z = refl
xor_rows_lem (c ∷ cs) j z =
    ap₂ ◌∷◌ (ap (λ (x : ℕ). (x + parity z c) % 2) (sym (parity_pow j c)) ∙ sym (parity_xor (2 ^ j) z c)) (xor_rows_lem cs j z)

zero_row : (cs : List ℕ) (z : ℕ) → all_of (λ d. eqb d 0) (row_of cs z) ≡ x_free cs z
unfolding row_of all_of x_free
zero_row [] z = refl
zero_row (c ∷ cs) z = ap (λ (b : Bool). eqb (parity z c) 0 && b) (zero_row cs z)

-- ---- the search for bits whose rows make a row finds them, if there are such

made_nil : (cs : List ℕ) (z : ℕ) → made cs [] (row_of cs z) ≡ cond (x_free cs z) (some 0) none
unfolding made
made_nil cs z = ap (λ (b : Bool). cond b (some 0) none) (zero_row cs z)

made_cons : (cs : List ℕ) (j : ℕ) (js : List ℕ) (z : ℕ)
    → made cs (j ∷ js) (row_of cs z) ≡ or_else (made cs js (row_of cs z)) (with_bit j (made cs js (row_of cs (bit_xor (2 ^ j) z))))
unfolding made
made_cons cs j js z = ap (λ (r : List ℕ). or_else (made cs js (row_of cs z)) (with_bit j (made cs js r))) (xor_rows_lem cs j z)

abbrev Makes : List ℕ → List ℕ → ℕ → ℕ → Type 0
Makes cs js z a = (is_xor_of (bits js) a ≡ true) × (x_free cs (bit_xor a z) ≡ true)

absurd_option : {A : Type 0} (w : ℕ) → some w ≡ none → A
absurd_option w h =
    let z : ◌≡◌ {A = ℕ} 0 1 = cc in
    let no : ⊥ = omega arith in
    absurd no

made_nil_some : (cs : List ℕ) (z a : ℕ) (b : Bool) → x_free cs z ≡ b → cond b (some 0) none ≡ some a → Makes cs [] z a
made_nil_some cs z a true e h =
    let same : 0 ≡ a = cc in
    (ap (is_xor_of []) (sym same) ∙ xor_of_zero [], ap (λ (x : ℕ). x_free cs (bit_xor x z)) (sym same) ∙ e)
made_nil_some cs z a false e h = absurd_option a (sym h)

made_cons_some : (cs : List ℕ) (j : ℕ) (js : List ℕ) (z a : ℕ) (o p : Option ℕ) → ((w : ℕ) → o ≡ some w → Makes cs js z w)
    → ((w : ℕ) → p ≡ some w → Makes cs js (bit_xor (2 ^ j) z) w) → or_else o (with_bit j p) ≡ some a → Makes cs (j ∷ js) z a
made_cons_some cs j js z a (some w) p f g h =
    let same : w ≡ a = cc in
    let inner : Makes cs js z w = f w refl in
    subst (Makes cs (j ∷ js) z) same (xor_of_tail (2 ^ j) (bits js) w inner.0, inner.1)
made_cons_some cs j js z a none (some w) f g h =
    let same : bit_xor (2 ^ j) w ≡ a = cc in
    let inner : Makes cs js (bit_xor (2 ^ j) z) w = g w refl in
    subst (Makes cs (j ∷ js) z) same (
      xor_of_with (2 ^ j) (bits js) (bit_xor (2 ^ j) w) (ap (is_xor_of (bits js)) (xor_cancel (2 ^ j) w) ∙ inner.0),
      ap (x_free cs) (xor_assoc (2 ^ j) w z ∙ xor_left_comm (2 ^ j) w z) ∙ inner.1,
    )
made_cons_some cs j js z a none none f g h = absurd_option a (sym h)

made_some : (cs js : List ℕ) (z a : ℕ) → made cs js (row_of cs z) ≡ some a → Makes cs js z a
made_some cs [] z a h = made_nil_some cs z a (x_free cs z) refl (sym (made_nil cs z) ∙ h)
made_some cs (j ∷ js) z a h =
    made_cons_some cs j js z a (made cs js (row_of cs z)) (made cs js (row_of cs (bit_xor (2 ^ j) z))) (made_some cs js z)
    (made_some cs js (bit_xor (2 ^ j) z)) (sym (made_cons cs j js z) ∙ h)

made_nil_none : (cs : List ℕ) (z a : ℕ) (b : Bool) → x_free cs z ≡ b → cond {A = Option ℕ} b (some 0) none ≡ none → Makes cs [] z a → ⊥
made_nil_none cs z a true e h m = absurd_option 0 h
made_nil_none cs z a false e h m =
    true_not_false (x_free cs z) (ap (λ (x : ℕ). x_free cs (bit_xor x z)) (sym (xor_of_nil a m.0)) ∙ m.1) e

made_cons_none : (cs : List ℕ) (j : ℕ) (js : List ℕ) (z : ℕ) (o p : Option ℕ) → (o ≡ none → (a : ℕ) → Makes cs js z a → ⊥)
    → (p ≡ none → (a : ℕ) → Makes cs js (bit_xor (2 ^ j) z) a → ⊥) → or_else o (with_bit j p) ≡ none → (a : ℕ) → Makes cs (j ∷ js) z a → ⊥
made_cons_none cs j js z (some w) p f g h a m = absurd_option w h
made_cons_none cs j js z none (some w) f g h a m = absurd_option (bit_xor (2 ^ j) w) h
made_cons_none cs j js z none none f g h a m =
    ⊎_elim (λ (p : is_xor_of (bits js) a ≡ true). f refl a (p, m.1))
    (λ (p : is_xor_of (bits js) (bit_xor (2 ^ j) a) ≡ true).
    g refl (bit_xor (2 ^ j) a) (p, ap (x_free cs) (both_with (2 ^ j) a z) ∙ m.1))
    (xor_of_cases (2 ^ j) (bits js) a m.0)

made_none : (cs js : List ℕ) (z : ℕ) → made cs js (row_of cs z) ≡ none → (a : ℕ) → Makes cs js z a → ⊥
made_none cs [] z h a m = made_nil_none cs z a (x_free cs z) refl (sym (made_nil cs z) ∙ h) m
made_none cs (j ∷ js) z h a m =
    made_cons_none cs j js z (made cs js (row_of cs z)) (made cs js (row_of cs (bit_xor (2 ^ j) z))) (made_none cs js z)
    (made_none cs js (bit_xor (2 ^ j) z)) (sym (made_cons cs j js z) ∙ h) a m

-- ---- what holds after the bits below i, of the words ws and the words us of the independent bits

record Scanned (cs : List ℕ) (i : ℕ) (ws us : List ℕ) : Type 0 where
  tops : Tops i 0 ws
  free : (w : ℕ) → is_xor_of ws w ≡ true → x_free cs w ≡ true
  spans : (y : ℕ) → y < 2 ^ i → is_xor_of (us ++ ws) y ≡ true
  alone : (z : ℕ) → is_xor_of us z ≡ true → x_free cs z ≡ true → z ≡ 0
  apart : (t : ℕ) → IsTop t ws → ClearIn t us
  low : (z : ℕ) → is_xor_of us z ≡ true → z < 2 ^ i

scanned_start : (cs : List ℕ) → Scanned cs 0 [] []
scanned_start cs =
    record {
      tops = tops_nil;
      free = λ w h. ap (x_free cs) (xor_of_nil w h) ∙ x_free_zero cs;
      spans = λ y h. ap (is_xor_of []) (lt-one h) ∙ xor_of_zero [];
      alone = λ z h f. xor_of_nil z h;
      apart = λ t h. absurd (not-suc-le-zero (top_under 0 t {k = 0} tops_nil h));
      low = λ z h. subst (λ (n : ℕ). n < 2 ^ 0) (sym (xor_of_nil z h)) (pow_pos 0);
    }

bits_snoc : (js : List ℕ) (i : ℕ) → bits (js ++ i ∷ []) ≡ bits js ++ 2 ^ i ∷ []
bits_snoc [] i = refl
bits_snoc (j ∷ js) i = ap (λ (l : List ℕ). 2 ^ j ∷ l) (bits_snoc js i)

-- words below 2 ^ i have bit i clear
clear_low : (i : ℕ) (us : List ℕ) → ((z : ℕ) → is_xor_of us z ≡ true → z < 2 ^ i) → ClearIn i us
clear_low i [] f = clear_nil
clear_low i (u ∷ us) f =
    clear_cons (ap (λ (x : ℕ). x % 2) (below_shr i u (f u (xor_of_head u us)))) (clear_low i us (λ z h. f z (xor_of_tail u us z h)))

top_snoc : (t w : ℕ) (ws : List ℕ) → IsTop t (ws ++ w ∷ []) → IsTop t ws ⊎ (w / 2 ^ t ≡ 1)
top_snoc t w [] (top_here h) = inr h
top_snoc t w [] (top_later h) = absurd (not-suc-le-zero (top_under 0 t {k = 0} tops_nil h))
top_snoc t w (v ∷ ws) (top_here h) = inl (top_here h)
top_snoc t w (v ∷ ws) (top_later h) = ⊎_elim (λ (p : IsTop t ws). inl (top_later p)) (λ (p : w / 2 ^ t ≡ 1). inr p) (top_snoc t w ws h)

wider : (i : ℕ) {z : ℕ} → z < 2 ^ i → z < 2 ^ suc i
wider i h = lt_of_lt_of_le h (pow_mono (le-suc i))

-- an XOR of the words us and one word u is one of us, or one of us with u
with_last : (us : List ℕ) (u z : ℕ) → is_xor_of (us ++ u ∷ []) z ≡ true → (is_xor_of us z ≡ true) ⊎ (is_xor_of us (bit_xor z u) ≡ true)
with_last us u z h =
    let t = xor_of_split us (u ∷ []) z h in
    ⊎_elim
    (λ (e : bit_xor t.0 z ≡ 0). inl (ap (is_xor_of us) (sym (xor_zero_eq t.0 z e)) ∙ t.1))
    (λ (e : bit_xor t.0 z ≡ u).
    inr (ap (is_xor_of us) (ap (bit_xor z) (sym e ∙ xor_comm t.0 z) ∙ xor_cancel z t.0) ∙ t.1))
    (xor_of_one u (bit_xor t.0 z) t.2)

-- a bit whose row no independent rows make
scanned_bit : (cs : List ℕ) (i : ℕ) (ws us : List ℕ) → Scanned cs i ws us → ((a : ℕ) → is_xor_of us a ≡ true → x_free cs (bit_xor a (2 ^ i)) ≡ true → ⊥) → Scanned cs (suc i) ws (us ++ 2 ^ i ∷ [])
scanned_bit cs i ws us s unmade =
    record {
      tops = tops_wider i s.tops;
      free = s.free;
      spans =
          by_top_bit ((us ++ 2 ^ i ∷ []) ++ ws) i
          (λ y h.
          let t = xor_of_split us ws y (s.spans y h) in
          xor_of_join (us ++ 2 ^ i ∷ []) ws t.0 y (xor_of_left us (2 ^ i ∷ []) t.0 t.1) t.2)
          (xor_of_left (us ++ 2 ^ i ∷ []) ws (2 ^ i) (xor_of_right us (2 ^ i ∷ []) (2 ^ i) (xor_of_head (2 ^ i) [])));
      alone = λ z h f.
          ⊎_elim (λ (p : is_xor_of us z ≡ true). s.alone z p f)
          (λ (p : is_xor_of us (bit_xor z (2 ^ i)) ≡ true).
          absurd (unmade (bit_xor z (2 ^ i)) p (ap (x_free cs) (xor_cancel_right z (2 ^ i)) ∙ f))) (with_last us (2 ^ i) z h);
      apart = λ t h. clear_append t (s.apart t h) (clear_cons (power_digit t i (top_under i t s.tops h)) clear_nil);
      low = λ z h.
          ⊎_elim (λ (p : is_xor_of us z ≡ true). wider i (s.low z p))
          (λ (p : is_xor_of us (bit_xor z (2 ^ i)) ≡ true).
          subst (λ (n : ℕ). n < 2 ^ suc i) (xor_cancel_right z (2 ^ i))
          (xor_lt (suc i) (bit_xor z (2 ^ i)) (2 ^ i) (wider i (s.low (bit_xor z (2 ^ i)) p)) (pow-lt (le_refl (suc i)))))
          (with_last us (2 ^ i) z h);
    }

-- a bit i whose row the bits of a make
scanned_word : (cs : List ℕ) (i a : ℕ) (ws us : List ℕ) → Scanned cs i ws us → is_xor_of us a ≡ true → x_free cs (bit_xor a (2 ^ i)) ≡ true → Scanned cs (suc i) (ws ++ bit_xor (2 ^ i) a ∷ []) us
scanned_word cs i a ws us s in-us free-word =
    let w = bit_xor (2 ^ i) a in
    let top : w / 2 ^ i ≡ 1 =
    xor_shr (2 ^ i) a i ∙ ap₂ bit_xor (power_top i) (below_shr i a (s.low a in-us))
    in
    let free_w : x_free cs w ≡ true = ap (x_free cs) (xor_comm (2 ^ i) a) ∙ free-word in
    record {
      tops =
          tops_snoc i w zero-le s.tops top
          (λ t h.
          digit_xor t (2 ^ i) a
          ∙ ap₂ (λ (x y : ℕ). (x + y) % 2) (power_digit t i (top_under i t s.tops h)) (span_clear t (s.apart t h) a in-us));
      free = λ y h.
          ⊎_elim (λ (p : is_xor_of ws y ≡ true). s.free y p)
          (λ (p : is_xor_of ws (bit_xor y w) ≡ true).
          ap (x_free cs) (sym (xor_cancel_right y w)) ∙ x_free_xor cs (bit_xor y w) w (s.free (bit_xor y w) p) free_w) (with_last ws w y h);
      spans =
          by_top_bit (us ++ (ws ++ w ∷ [])) i
          (λ y h.
          let t = xor_of_split us ws y (s.spans y h) in
          xor_of_join us (ws ++ w ∷ []) t.0 y t.1 (xor_of_left ws (w ∷ []) (bit_xor t.0 y) t.2))
          (xor_of_join us (ws ++ w ∷ []) a (2 ^ i) in-us
          (ap (is_xor_of (ws ++ w ∷ [])) (xor_comm a (2 ^ i)) ∙ xor_of_right ws (w ∷ []) w (xor_of_head w [])));
      alone = s.alone;
      apart = λ t h.
          ⊎_elim (λ (p : IsTop t ws). s.apart t p)
          (λ (p : w / 2 ^ t ≡ 1). subst (λ (n : ℕ). ClearIn n us) (one_top i t w top p) (clear_low i us s.low)) (top_snoc t w ws h);
      low = λ z h. wider i (s.low z h);
    }

scanned_next : (cs : List ℕ) (i : ℕ) (ws js : List ℕ) → Scanned cs i ws (bits js) → (o : Option ℕ) → made cs js (row cs i) ≡ o → Scanned cs (suc i) (kept_word o ws i) (bits (kept_bit o js i))
scanned_next cs i ws js s none e =
    subst (Scanned cs (suc i) ws) (sym (bits_snoc js i))
    (scanned_bit cs i ws (bits js) s
    (λ a p f. made_none cs js (2 ^ i) (ap (made cs js) (sym (row_of_bit cs i)) ∙ e) a (p, f)))
scanned_next cs i ws js s (some a) e =
    let m : Makes cs js (2 ^ i) a = made_some cs js (2 ^ i) a (ap (made cs js) (sym (row_of_bit cs i)) ∙ e) in
    scanned_word cs i a ws (bits js) s m.0 m.1

scanned : (cs : List ℕ) (i : ℕ) → Scanned cs i (words_below cs i) (bits (independent cs i))
unfolding words_below independent
scanned cs zero = scanned_start cs
scanned cs (suc i) =
    scanned_next cs i (words_below cs i) (independent cs i) (scanned cs i) (made cs (independent cs i) (row cs i)) refl

-- ---- the reduced list

pub listed_tops : (m : ℕ) (cs : List ℕ) → Tops m 0 (reduced_list m cs)
unfolding reduced_list
listed_tops m cs = (scanned cs m).tops

-- the XORs of the listed words are the X-free combinations
pub listed_span : (m : ℕ) (cs : List ℕ) (y : ℕ) → y < 2 ^ m → is_xor_of (reduced_list m cs) y ≡ x_free cs y
unfolding reduced_list
listed_span m cs y h =
    iff_eq _ _ ((scanned cs m).free y)
    (λ (f : x_free cs y ≡ true).
    let us = bits (independent cs m) in
    let t = xor_of_split us (words_below cs m) y ((scanned cs m).spans y h) in
    let free_a : x_free cs t.0 ≡ true =
    ap (x_free cs) (sym (xor_cancel_right t.0 y)) ∙ x_free_xor cs (bit_xor t.0 y) y ((scanned cs m).free (bit_xor t.0 y) t.2) f
    in
    let none_left : t.0 ≡ 0 = (scanned cs m).alone t.0 t.1 free_a in
    ap (λ (x : ℕ). is_xor_of (words_below cs m) (bit_xor x y)) (sym none_left) ∙ t.2)
