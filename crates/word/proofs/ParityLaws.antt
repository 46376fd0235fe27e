-- The parities of a list of words, found from its last word to its first. Assumes nothing.
use mathlib.Core.Path.{◌≡◌, sym, ap, ap₂, ◌∙◌, subst}
use mathlib.Core.List.{List}
use Prim.Native.Nat.{ℕ, suc, ◌+◌, ◌-◌, ◌*◌, ◌^◌, ◌<◌, ◌≤◌, min}
use native.Mathlib.Nat.{add_comm, lt_of_lt_of_le}
use native.Mathlib.Omega.{arith}
use lib.ListN.{length, get_or, take, drop, length-take, length-drop, drop_of_length-le}
use lib.Pow.{pow_mono}
use lib.Seq.{drop-cons, get_or-take}
use Rattle.word.specs.Word.{parity}
use Rattle.word.specs.Parities.{parities}
use Rattle.word.proofs.Laws.{parity_lt, parities_lt}

-- the words from place i on are done
pub record Paritied (ws : List ℕ) (y i bits : ℕ) : Type 0 where
  pub inside : i ≤ min (length ws) 64
  pub done : bits ≡ parities (drop i (take 64 ws)) y

pub paritied_start : (ws : List ℕ) (y i : ℕ) → i ≡ min (length ws) 64 → Paritied ws y i 0
unfolding parities
paritied_start ws y i e =
    record {
      inside = omega arith;
      done = ap (λ (l : List ℕ). parities l y) (sym (drop_of_length-le (take 64 ws) {i = i} (omega (arith, length-take 64 ws))));
    }

-- one doubling more fits a word
pub paritied_small : (ws : List ℕ) (y i bits : ℕ) → Paritied ws y i bits → 0 < i → bits < 2 ^ 63
paritied_small ws y i bits p h =
    let short : length (drop i (take 64 ws)) ≤ 63 = omega (arith, length-drop i (take 64 ws), length-take 64 ws) in
    subst (λ (n : ℕ). n < 2 ^ 63) (sym p.done) (lt_of_lt_of_le (parities_lt (drop i (take 64 ws)) y) (pow_mono short))

one_more : (l : List ℕ) (y k : ℕ) → k < length l → parities (drop k l) y ≡ 2 * parities (drop (suc k) l) y + parity (get_or l k 0) y
unfolding parities
one_more l y k h =
    ap (λ (x : List ℕ). parities x y) (drop-cons l k 0 h) ∙ add_comm (parity (get_or l k 0) y) (2 * parities (drop (suc k) l) y)

pub parity_below : (w y r : ℕ) → r ≡ parity w y → r < 2
parity_below w y r e = subst (λ (n : ℕ). n < 2) (sym e) (parity_lt w y)

pub paritied_turn : (ws : List ℕ) (y i bits r : ℕ) → Paritied ws y i bits → 0 < i → r ≡ parity (get_or ws (i - 1) 0) y → Paritied ws y (i - 1) (2 * bits + r)
paritied_turn ws y i bits r p h e =
    let back : suc (i - 1) ≡ i = omega arith in
    let within : i - 1 < length (take 64 ws) = omega (arith, length-take 64 ws, p.inside) in
    let low : i - 1 < 64 = omega (arith, p.inside) in
    record {
      inside = omega (arith, p.inside);
      done =
          ap₂ (λ (x z : ℕ). 2 * x + z) (p.done ∙ ap (λ (n : ℕ). parities (drop n (take 64 ws)) y) (sym back))
          (e ∙ ap (λ (w : ℕ). parity w y) (sym (get_or-take 64 ws (i - 1) 0 low)))
          ∙ sym (one_more (take 64 ws) y (i - 1) within);
    }

pub paritied_end : (ws : List ℕ) (y i bits : ℕ) → Paritied ws y i bits → i ≤ 0 → bits ≡ parities (take 64 ws) y
paritied_end ws y i bits p h =
    let none_left : i ≡ 0 = omega arith in
    p.done ∙ ap (λ (n : ℕ). parities (drop n (take 64 ws)) y) none_left
