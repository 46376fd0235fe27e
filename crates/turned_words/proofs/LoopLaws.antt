-- The start, turn and end of the loop over marks. Assumes nothing.
use mathlib.Core.Path.{◌≡◌, refl, sym, ap, ap₂, ◌∙◌, subst}
use mathlib.Core.Logic.{dite}
use mathlib.Core.List.{List}
use Prim.Native.Nat.{ℕ, ◌-◌, ◌*◌, ◌%◌, ◌^◌, ◌<◌, min}
use native.Mathlib.Nat.{zero-mul, one-mul, mod-lt}
use native.Mathlib.Decide.{dec_lt, ℕ_discrete}
use native.Mathlib.Omega.{arith}
use lib.Bits.{bit_xor, bit_and, and_mask, xor_zero_r}
use lib.ListN.{length, get_or, set, length-set}
use lib.Pow.{pow_pos}
use lib.Seq.{get_or-set_same, get_or-set_other}
use Rattle.word.specs.Word.{digit, low_mask}
use Rattle.word.proofs.LowestLaws.{Lowest, digit_mod, digit_past, below_lowest, above_lowest, lowest_gone, lowest_less}
use Rattle.word.proofs.MarkedLaws.{masked_below, mark_inside}
use Rattle.turned_words.specs.Turned.{XoredInto}

-- ---- the loop over the marks: with x in the words of the bits in `left` too, it is in those of all marks

pub record Into (l l' : List ℕ) (marks x left : ℕ) : Type 0 where
  pub word : left < 2 ^ 64
  pub list : left < 2 ^ length l
  pub long : length l' ≡ length l
  pub each : (i : ℕ) → i < length l → bit_xor (get_or l' i 0) (digit i left * x) ≡ bit_xor (get_or l i 0) (digit i marks * x)

pub into_start : (l : List ℕ) (marks x mask : ℕ) → marks < 2 ^ 64 → mask ≡ low_mask (length l) → Into l l marks x (bit_and marks mask)
unfolding low_mask
into_start l marks x mask h e =
    let below = masked_below l marks mask e in
    record {
      word = below.0;
      list = below.1;
      long = refl;
      each = λ i li. ap (λ (d : ℕ). bit_xor (get_or l i 0) (d * x)) (ap (digit i) masked ∙ dite (dec_lt i 64) (λ (z : i < 64). digit_mod (min (length l) 64) marks i (omega arith)) (past i));
    }
  where
    masked : bit_and marks mask ≡ marks % 2 ^ min (length l) 64
    masked = ap (bit_and marks) e ∙ and_mask marks (min (length l) 64)

    past : (i : ℕ) → (i < 64 → ⊥) → digit i (marks % 2 ^ min (length l) 64) ≡ digit i marks
    past i z =
        digit_past (min (length l) 64) (marks % 2 ^ min (length l) 64) i (mod-lt marks (pow_pos (min (length l) 64))) (omega arith)
        ∙ sym (digit_past 64 marks i h (omega arith))

other_digit : (w k i : ℕ) → Lowest w k → (i ≡ k → ⊥) → digit i (bit_and w (w - 1)) ≡ digit i w
other_digit w k i t n =
    dite (dec_lt i k) (λ (l : i < k). lowest_gone w k t i (omega arith) ∙ sym (below_lowest w k t i l))
    (λ (l : i < k → ⊥). above_lowest w k t i (omega arith))

pub into_inside : (l l' : List ℕ) (marks x left k : ℕ) → Into l l' marks x left → Lowest left k → k < length l'
into_inside l l' marks x left k t low = subst (λ (n : ℕ). k < n) (sym t.long) (mark_inside l left k t.list low)

pub into_turn : (l l' : List ℕ) (marks x left k : ℕ) → Into l l' marks x left → Lowest left k
    → Into l (set l' k (bit_xor (get_or l' k 0) x)) marks x (bit_and left (left - 1))
into_turn l l' marks x left k t low =
    let less = lowest_less left k low in
    record {
      word = omega (arith, less, t.word);
      list = omega (arith, less, t.list);
      long = length-set l' k (bit_xor (get_or l' k 0) x) ∙ t.long;
      each = λ i li. dite (ℕ_discrete i k) (here i li) (other i li);
    }
  where
    new : List ℕ
    new = set l' k (bit_xor (get_or l' k 0) x)

    here : (i : ℕ) → i < length l → i ≡ k → bit_xor (get_or new i 0) (digit i (bit_and left (left - 1)) * x) ≡ bit_xor (get_or l i 0) (digit i marks * x)
    here i li e =
        ap (λ (d : ℕ). bit_xor (get_or new i 0) (d * x)) (lowest_gone left k low i (omega arith))
        ∙ ap (bit_xor (get_or new i 0)) (zero-mul x) ∙ xor_zero_r (get_or new i 0)
        ∙ ap (λ (j : ℕ). get_or new j 0) e ∙ get_or-set_same l' k (bit_xor (get_or l' k 0) x) 0 (into_inside l l' marks x left k t low)
        ∙ ap (bit_xor (get_or l' k 0)) (sym (ap (λ (d : ℕ). d * x) low.one ∙ one-mul x))
        ∙ ap (λ (j : ℕ). bit_xor (get_or l' j 0) (digit j left * x)) (sym e) ∙ t.each i li

    other : (i : ℕ) → i < length l → (i ≡ k → ⊥) → bit_xor (get_or new i 0) (digit i (bit_and left (left - 1)) * x) ≡ bit_xor (get_or l i 0) (digit i marks * x)
    other i li n =
        ap₂ (λ (r d : ℕ). bit_xor r (d * x)) (get_or-set_other l' k i (bit_xor (get_or l' k 0) x) 0 n) (other_digit left k i low n) ∙ t.each i li

pub into_end : (l l' : List ℕ) (marks x left : ℕ) → Into l l' marks x left → left ≡ 0 → XoredInto l l' marks x
into_end l l' marks x left t z =
    record {
      long = t.long;
      each = λ i li.
          sym (ap (λ (w : ℕ). bit_xor (get_or l' i 0) (digit i w * x)) z ∙ ap (λ (d : ℕ). bit_xor (get_or l' i 0) (d * x)) (digit_past 0 0 i (omega arith) (omega arith))
          ∙ ap (bit_xor (get_or l' i 0)) (zero-mul x) ∙ xor_zero_r (get_or l' i 0))
          ∙ t.each i li;
    }
