-- XORs of a range of words, and of the members of a list.
--
--   xor_below_ext      the same words have the same XOR
--   xor_below_zero     .. words that are all 0, 0
--   xor_below_one      .. words that are 0 but for one, that one
--   xor_below_xor      the XOR of two ranges, word by word
--   xor_below_swap     rows first, or columns first
--   xor_below_lt       it stays within a width
--   xor_of_below       XORs of a list's words are closed under it
--   xor_of_member      a word that stands in a list is an XOR of the list's words
--   xor_of_moves       what holds of 0, and stays where a word of the list is XORed in, holds of every XOR of the list's words
--   xor_of_inside      where each of a list's words is an XOR of others, all its XORs are
-- Assumes nothing.
use mathlib.Core.Path.{◌≡◌, refl, sym, ap, ap₂, ◌∙◌, subst}
use mathlib.Core.Bool.{true}
use mathlib.Core.Logic.{⊎_elim}
use mathlib.Core.List.{List, [], ◌∷◌}
use Prim.Native.Nat.{ℕ, zero, suc, ◌^◌, ◌<◌}
use native.Mathlib.Nat.{not-suc-le-zero, lt-suc_self, le_step, eq-or-lt_of_le, le_of_suc-le-suc}
use native.Mathlib.Omega.{arith}
use borrow.Author.Tests.{eqb-true, eq-eqb}
use lib.Bits.{bit_xor, xor_comm, xor_zero_r, xor_lt}
use lib.Dec.{eqb}
use lib.Pow.{pow_pos}
use Rattle.word.specs.Some.{any_of}
use Rattle.word.specs.Span.{is_xor_of, xor_below}
use Rattle.word.proofs.Laws.{xor_cancel_right}
use Rattle.word.proofs.WordLaws.{xor_crosswise}
use Rattle.word.proofs.BoolLaws.{true_not_false, or_cases, or_true_left, or_true_right}
use Rattle.word.proofs.SpanLaws.{xor_of_zero, xor_of_head, xor_of_tail, xor_of_cases, xor_of_nil, xor_of_xor}

-- ---- a range

pub xor_below_none : (f : ℕ → ℕ) → xor_below 0 f ≡ 0
unfolding xor_below
xor_below_none f = refl

pub xor_below_suc : (n : ℕ) (f : ℕ → ℕ) → xor_below (suc n) f ≡ bit_xor (xor_below n f) (f n)
unfolding xor_below
xor_below_suc n f = refl

pub xor_below_ext : (n : ℕ) (f g : ℕ → ℕ) → ((i : ℕ) → i < n → f i ≡ g i) → xor_below n f ≡ xor_below n g
unfolding xor_below
xor_below_ext zero f g h = refl
xor_below_ext (suc n) f g h = ap₂ bit_xor (xor_below_ext n f g (λ i l. h i (le_step l))) (h n (lt-suc_self n))

pub xor_below_zero : (n : ℕ) (f : ℕ → ℕ) → ((i : ℕ) → i < n → f i ≡ 0) → xor_below n f ≡ 0
unfolding xor_below
xor_below_zero zero f h = refl
xor_below_zero (suc n) f h = ap₂ bit_xor (xor_below_zero n f (λ i l. h i (le_step l))) (h n (lt-suc_self n))

pub xor_below_one : (n : ℕ) (f : ℕ → ℕ) (k : ℕ) → k < n → ((i : ℕ) → i < n → (i ≡ k → ⊥) → f i ≡ 0) → xor_below n f ≡ f k
xor_below_one zero f k l h = absurd (not-suc-le-zero l)
xor_below_one (suc n) f k l h =
    ⊎_elim last (λ (m : k < n). below m (xor_below_one n f k m (λ i l d. h i (le_step l) d))) (eq-or-lt_of_le (le_of_suc-le-suc l))
  where
    last : k ≡ n → xor_below (suc n) f ≡ f k
    last e =
        xor_below_suc n f
        ∙ ap (λ (x : ℕ). bit_xor x (f n)) (xor_below_zero n f (λ i m. h i (le_step m) (λ (d : i ≡ k). omega arith)))
        ∙ xor_comm 0 (f n) ∙ xor_zero_r (f n) ∙ ap f (sym e)

    below : k < n → xor_below n f ≡ f k → xor_below (suc n) f ≡ f k
    below m e =
        xor_below_suc n f ∙ ap₂ bit_xor e (h n (lt-suc_self n) (λ (d : n ≡ k). omega arith)) ∙ xor_zero_r (f k)

pub xor_below_xor : (n : ℕ) (f g : ℕ → ℕ) → xor_below n (λ i. bit_xor (f i) (g i)) ≡ bit_xor (xor_below n f) (xor_below n g)
unfolding xor_below
xor_below_xor zero f g = refl
xor_below_xor (suc n) f g =
    ap (λ (x : ℕ). bit_xor x (bit_xor (f n) (g n))) (xor_below_xor n f g) ∙ xor_crosswise (xor_below n f) (xor_below n g) (f n) (g n)

pub xor_below_swap : (n m : ℕ) (f : ℕ → ℕ → ℕ) → xor_below n (λ i. xor_below m (f i)) ≡ xor_below m (λ j. xor_below n (λ i. f i j))
unfolding xor_below
xor_below_swap zero m f = sym (xor_below_zero m (λ j. 0) (λ i l. refl))
xor_below_swap (suc n) m f =
    ap (λ (x : ℕ). bit_xor x (xor_below m (f n))) (xor_below_swap n m f)
    ∙ sym (xor_below_xor m (λ j. xor_below n (λ i. f i j)) (f n))

pub xor_below_lt : (m n : ℕ) (f : ℕ → ℕ) → ((i : ℕ) → i < n → f i < 2 ^ m) → xor_below n f < 2 ^ m
unfolding xor_below
xor_below_lt m zero f h = pow_pos m
xor_below_lt m (suc n) f h = xor_lt m (xor_below n f) (f n) (xor_below_lt m n f (λ i l. h i (le_step l))) (h n (lt-suc_self n))

pub xor_of_below : (ws : List ℕ) (n : ℕ) (f : ℕ → ℕ) → ((i : ℕ) → i < n → is_xor_of ws (f i) ≡ true) → is_xor_of ws (xor_below n f) ≡ true
unfolding xor_below
xor_of_below ws zero f h = xor_of_zero ws
xor_of_below ws (suc n) f h =
    xor_of_xor ws (xor_below n f) (f n) (xor_of_below ws n f (λ i l. h i (le_step l))) (h n (lt-suc_self n))

-- ---- the members of a list

no_member : (v : ℕ) → any_of (eqb v) [] ≡ true → ⊥
unfolding any_of
no_member v h = true_not_false true refl (sym h)

pub xor_of_member : (ws : List ℕ) (v : ℕ) → any_of (eqb v) ws ≡ true → is_xor_of ws v ≡ true
unfolding any_of
xor_of_member [] v h = absurd (no_member v h)
xor_of_member (w ∷ ws) v h =
    ⊎_elim (λ (e : eqb v w ≡ true). ap (is_xor_of (w ∷ ws)) (eqb-true v w e) ∙ xor_of_head w ws)
    (λ (q : any_of (eqb v) ws ≡ true). xor_of_tail w ws v (xor_of_member ws v q)) (or_cases (eqb v w) (any_of (eqb v) ws) h)

module _ (D : ℕ → Type 0) (start : D 0) where
  pub xor_of_moves : (ws : List ℕ) → ((v : ℕ) → any_of (eqb v) ws ≡ true → (a : ℕ) → D a → D (bit_xor a v)) → (w : ℕ) → is_xor_of ws w ≡ true → D w
  unfolding any_of
  xor_of_moves [] move w h = subst D (sym (xor_of_nil w h)) start
  xor_of_moves (v ∷ ws) move w h =
      ⊎_elim (λ (p : is_xor_of ws w ≡ true). xor_of_moves ws (λ u q. move u (or_true_right (eqb u v) (any_of (eqb u) ws) q)) w p)
      (λ (p : is_xor_of ws (bit_xor v w) ≡ true).
      subst D (ap (λ (x : ℕ). bit_xor x v) (xor_comm v w) ∙ xor_cancel_right w v)
      (move v (or_true_left (eqb v v) (any_of (eqb v) ws) (eq-eqb v v refl)) (bit_xor v w)
      (xor_of_moves ws (λ u q. move u (or_true_right (eqb u v) (any_of (eqb u) ws) q)) (bit_xor v w) p)))
      (xor_of_cases v ws w h)

pub xor_of_inside : (us vs : List ℕ) → ((v : ℕ) → any_of (eqb v) us ≡ true → is_xor_of vs v ≡ true) → (w : ℕ) → is_xor_of us w ≡ true → is_xor_of vs w ≡ true
xor_of_inside us vs inside =
    xor_of_moves (λ (a : ℕ). is_xor_of vs a ≡ true) (xor_of_zero vs) us (λ v q a h. xor_of_xor vs a v h (inside v q))
