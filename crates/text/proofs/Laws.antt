-- The start, turn and end of the loop that makes digits. Assumes nothing.
use mathlib.Core.Path.{◌≡◌, sym, ap, ap₂, ◌∙◌, subst}
use mathlib.Core.List.{List, [], ◌∷◌, ◌++◌, append_assoc, append-nil}
use Prim.Native.Nat.{ℕ, zero, suc, ◌+◌, ◌-◌, ◌/◌, ◌%◌, ◌^◌, ◌<◌, ◌≤◌}
use native.Mathlib.Nat.{pow-suc}
use native.Mathlib.Omega.{arith}
use lib.ListN.{length, set, drop, length-set, drop_of_length-le}
use lib.Seq.{drop-cons, drop-set-lt, get_or-set_same}
use Rattle.text.specs.Text.{digits_in, decimal}
use Rattle.text.proofs.DecimalLaws.{digits_more, digits_last}

pub record Digiting (n : ℕ) (bytes : List ℕ) (left i : ℕ) : Type 0 where
  pub low : 1 ≤ i
  pub high : i ≤ 20
  pub long : length bytes ≡ 20
  pub small : left < 10 ^ i
  pub done : digits_in i left ++ drop i bytes ≡ decimal n

pub digiting_start : (n : ℕ) (bytes : List ℕ) → n < 2 ^ 64 → length bytes ≡ 20 → Digiting n bytes n 20
unfolding decimal
digiting_start n bytes h l =
    record {
      low = omega arith;
      high = omega arith;
      long = l;
      small = omega arith;
      done = ap (λ (x : List ℕ). digits_in 20 n ++ x) (drop_of_length-le bytes {i = 20} (omega arith)) ∙ append-nil (digits_in 20 n);
    }

-- more than one digit is left
pub two_left : (left i : ℕ) → left < 10 ^ i → 9 < left → 2 ≤ i
two_left left zero s h = let z : ⊥ = omega arith in absurd z
two_left left (suc zero) s h = let z : ⊥ = omega arith in absurd z
two_left left (suc (suc i)) s h = omega arith

-- the byte at place k is set, and those behind it stay
set_behind : (bytes : List ℕ) (k v : ℕ) → k < length bytes → drop k (set bytes k v) ≡ v ∷ drop (suc k) bytes
set_behind bytes k v h =
    drop-cons (set bytes k v) k 0 (subst (λ (n : ℕ). k < n) (sym (length-set bytes k v)) h)
    ∙ ap₂ ◌∷◌ (get_or-set_same bytes k v 0 h) (drop-set-lt (suc k) bytes k v (omega arith))

turn_at : (n : ℕ) (bytes : List ℕ) (left k : ℕ) → Digiting n bytes left (suc k) → 9 < left → 1 ≤ k → Digiting n (set bytes k (48 + left % 10)) (left / 10) k
turn_at n bytes left k d h l =
    let inside : k < length bytes = omega (arith, d.long, d.high) in
    record {
      low = l;
      high = omega (arith, d.high);
      long = length-set bytes k (48 + left % 10) ∙ d.long;
      small = omega (arith, d.small, pow-suc 10 k);
      done =
          ap (λ (x : List ℕ). digits_in k (left / 10) ++ x) (set_behind bytes k (48 + left % 10) inside)
          ∙ sym (append_assoc (digits_in k (left / 10)) ((48 + left % 10) ∷ []) (drop (suc k) bytes))
          ∙ ap (λ (x : List ℕ). x ++ drop (suc k) bytes) (sym (digits_more k left h)) ∙ d.done;
    }

end_at : (n : ℕ) (bytes : List ℕ) (left k : ℕ) → Digiting n bytes left (suc k) → left ≤ 9
    → (length (set bytes k (48 + left)) ≡ 20) × (k ≤ 20) × (drop k (set bytes k (48 + left)) ≡ decimal n)
end_at n bytes left k d h =
    let inside : k < length bytes = omega (arith, d.long, d.high) in (
      length-set bytes k (48 + left) ∙ d.long,
      omega (arith, d.high),
      set_behind bytes k (48 + left) inside ∙ ap (λ (x : List ℕ). x ++ drop (suc k) bytes) (sym (digits_last k left h)) ∙ d.done,
    )

pub digiting_turn : (n : ℕ) (bytes : List ℕ) (left i : ℕ) → Digiting n bytes left i → 9 < left → Digiting n (set bytes (i - 1) (48 + left % 10)) (left / 10) (i - 1)
digiting_turn n bytes left i d h =
    let two : 2 ≤ i = two_left left i d.small h in
    let e : i ≡ suc (i - 1) = omega arith in
    turn_at n bytes left (i - 1) (subst (Digiting n bytes left) e d) h (omega arith)

pub digiting_end : (n : ℕ) (bytes : List ℕ) (left i : ℕ) → Digiting n bytes left i → left ≤ 9
    → (length (set bytes (i - 1) (48 + left)) ≡ 20) × (i - 1 ≤ 20) × (drop (i - 1) (set bytes (i - 1) (48 + left)) ≡ decimal n)
digiting_end n bytes left i d h =
    let e : i ≡ suc (i - 1) = omega (arith, d.low) in
    end_at n bytes left (i - 1) (subst (Digiting n bytes left) e d) h
