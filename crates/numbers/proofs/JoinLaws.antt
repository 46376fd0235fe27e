-- Lists one after the other: lists that are alike join to the same, and of lists of one length each is found again.
--
--   joined_ext      lists that are alike one by one
--   joined_length   n lists of b places each have b * n
--   joined_row      .. and list i of them stands from place b * i on
--   joined_back     a list of b * n places is its n parts of b places, one after the other
-- Assumes nothing.
use mathlib.Core.Path.{◌≡◌, refl, sym, ap, ap₂, ◌∙◌}
use mathlib.Core.Logic.{⊎_elim}
use mathlib.Core.List.{List, ◌++◌}
use Prim.Native.Nat.{ℕ, zero, suc, ◌+◌, ◌*◌, ◌≤◌, ◌<◌}
use native.Mathlib.Nat.{mul-suc, mul-zero, mul-le-mul_left, le_step, lt-suc_self, le_of_suc-le-suc, eq-or-lt_of_le, not-suc-le-zero}
use native.Mathlib.Omega.{arith}
use lib.ListN.{length, take, drop, length-append, length-drop}
use lib.Seq.{take_all, take-add, take-append-le, drop-append-le, drop_at}
use Rattle.numbers.specs.Joined.{joined}

pub joined_ext : (f g : ℕ → List ℕ) (n : ℕ) → ((i : ℕ) → i < n → f i ≡ g i) → joined f n ≡ joined g n
unfolding joined
joined_ext f g zero h = refl
joined_ext f g (suc n) h = ap₂ ◌++◌ (joined_ext f g n (λ i l. h i (le_step l))) (h n (lt-suc_self n))

-- ---- lists of b places each

module _ (b : ℕ) (f : ℕ → List ℕ) where
  pub joined_length : (n : ℕ) → ((i : ℕ) → i < n → length (f i) ≡ b) → length (joined f n) ≡ b * n
  unfolding joined
  joined_length zero h = sym (mul-zero b)
  joined_length (suc n) h =
      length-append (joined f n) (f n)
      ∙ omega (arith, joined_length n (λ i l. h i (le_step l)), h n (lt-suc_self n), mul-suc b n)

  pub joined_row : (n i : ℕ) → ((i : ℕ) → i < n → length (f i) ≡ b) → i < n → take b (drop (b * i) (joined f n)) ≡ f i
  unfolding joined
  joined_row zero i h l = absurd (not-suc-le-zero l)
  joined_row (suc n) i h l =
      let rows : length (joined f n) ≡ b * n = joined_length n (λ i l. h i (le_step l)) in
      ⊎_elim
      (λ (e : i ≡ n).
      ap (λ (x : ℕ). take b (drop (b * x) (joined f n ++ f n))) e
      ∙ ap (take b) (drop_at (joined f n) (f n) (b * n) rows)
      ∙ take_all b (f n) (omega (arith, h n (lt-suc_self n)))
      ∙ ap f (sym e))
      (λ (m : i < n).
      let inside : b * i + b ≤ length (joined f n) = omega (arith, rows, mul-suc b i, mul-le-mul_left b m) in
      let long : b ≤ length (drop (b * i) (joined f n)) = omega (arith, length-drop (b * i) (joined f n)) in
      ap (take b) (drop-append-le (b * i) (joined f n) (f n) (omega arith))
      ∙ take-append-le b (drop (b * i) (joined f n)) (f n) long
      ∙ joined_row n i (λ i l. h i (le_step l)) m)
      (eq-or-lt_of_le (le_of_suc-le-suc l))

-- the first n parts of b places of a list are its front
joined_front : (b : ℕ) (l : List ℕ) (n : ℕ) → joined (λ i. take b (drop (b * i) l)) n ≡ take (b * n) l
unfolding joined
joined_front b l zero = sym (ap (λ (x : ℕ). take x l) (mul-zero b))
joined_front b l (suc n) =
    ap (λ (x : List ℕ). x ++ take b (drop (b * n) l)) (joined_front b l n)
    ∙ sym (ap (λ (x : ℕ). take x l) (mul-suc b n) ∙ take-add (b * n) b l)

pub joined_back : (b : ℕ) (l : List ℕ) (n : ℕ) → length l ≤ b * n → joined (λ i. take b (drop (b * i) l)) n ≡ l
joined_back b l n h = joined_front b l n ∙ take_all (b * n) l h
