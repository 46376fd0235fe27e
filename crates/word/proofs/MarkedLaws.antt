-- The XOR of the words that the bits of a word mark: the start, the turn and the end of the loop over its bits that are 1. Assumes
-- nothing.
use mathlib.Core.Path.{◌≡◌, refl, sym, ap, subst, ◌∙◌}
use mathlib.Core.Bool.{cond}
use mathlib.Core.Logic.{dite}
use mathlib.Core.List.{List}
use Prim.Native.Nat.{ℕ, ◌-◌, ◌*◌, ◌%◌, ◌^◌, ◌≤◌, ◌<◌, min}
use native.Mathlib.Nat.{zero-mul, one-mul, mod-lt, lt_of_lt_of_le}
use native.Mathlib.Decide.{dec_lt, ℕ_discrete}
use native.Mathlib.Omega.{arith}
use lib.Bits.{bit_xor, bit_and, and_mask, xor_zero_r}
use lib.Dec.{eqb}
use borrow.Author.Tests.{eq-eqb, ne_eqb}
use lib.ListN.{length, get_or}
use lib.Pow.{pow_pos, pow_mono}
use Rattle.word.specs.Word.{digit, low_mask}
use Rattle.word.specs.Span.{xor_below}
use Rattle.word.specs.Marked.{xor_marked}
use Rattle.word.proofs.Laws.{xor_assoc}
use Rattle.word.proofs.XorLaws.{xor_below_ext, xor_below_zero, xor_below_one, xor_below_xor}
use Rattle.word.proofs.LowestLaws.{digit_mod, digit_past, Lowest, below_lowest, above_lowest, lowest_gone}

module _ (ws : List ℕ) where
  -- no mark, no word
  marked_none : xor_marked ws 0 ≡ 0
  unfolding xor_marked
  marked_none =
      xor_below_zero (length ws) (λ i. digit i 0 * get_or ws i 0)
      (λ i l. ap (λ (d : ℕ). d * get_or ws i 0) (digit_past 0 0 i (omega arith) (omega arith)) ∙ zero-mul (get_or ws i 0))

  -- a mark past the list's end counts as none
  marked_masked : (marks : ℕ) → marks < 2 ^ 64 → xor_marked ws (marks % 2 ^ min (length ws) 64) ≡ xor_marked ws marks
  unfolding xor_marked
  marked_masked marks h =
      xor_below_ext (length ws) (λ i. digit i (marks % 2 ^ min (length ws) 64) * get_or ws i 0) (λ i. digit i marks * get_or ws i 0)
      (λ i l. ap (λ (d : ℕ). d * get_or ws i 0) (dite (dec_lt i 64) (λ (z : i < 64). digit_mod (min (length ws) 64) marks i (omega arith)) (past i)))
    where
      past : (i : ℕ) → (i < 64 → ⊥) → digit i (marks % 2 ^ min (length ws) 64) ≡ digit i marks
      past i z =
          digit_past (min (length ws) 64) (marks % 2 ^ min (length ws) 64) i (mod-lt marks (pow_pos (min (length ws) 64))) (omega arith)
          ∙ sym (digit_past 64 marks i h (omega arith))

  -- the lowest mark's word, and those of the other marks
  module _ (w k : ℕ) (t : Lowest w k) (inside : k < length ws) where
    abbrev alone : ℕ → ℕ
    alone i = cond (eqb i k) (get_or ws i 0) 0

    each : (i : ℕ) → digit i w * get_or ws i 0 ≡ bit_xor (alone i) (digit i (bit_and w (w - 1)) * get_or ws i 0)
    each i =
        dite (dec_lt i k)
        (λ (l : i < k). rw (ne_eqb i k (λ (z : i ≡ k). omega arith)) (ap (λ (d : ℕ). d * get_or ws i 0) (below_lowest w k t i l ∙ sym (lowest_gone w k t i (omega arith)))))
        (λ (l : i < k → ⊥).
        dite (ℕ_discrete i k) here
        (λ (z : i ≡ k → ⊥). rw (ne_eqb i k z) (ap (λ (d : ℕ). d * get_or ws i 0) (sym (above_lowest w k t i (omega arith))))))
      where
        here : i ≡ k → digit i w * get_or ws i 0 ≡ bit_xor (alone i) (digit i (bit_and w (w - 1)) * get_or ws i 0)
        here z =
            rw (eq-eqb i k z)
            (ap (λ (d : ℕ). d * get_or ws i 0) (ap (λ (x : ℕ). digit x w) z ∙ t.one) ∙ one-mul (get_or ws i 0)
            ∙ sym (ap (bit_xor (get_or ws i 0)) (ap (λ (d : ℕ). d * get_or ws i 0) (lowest_gone w k t i (omega arith)) ∙ zero-mul (get_or ws i 0)) ∙ xor_zero_r (get_or ws i 0)))

    alone_one : xor_below (length ws) alone ≡ get_or ws k 0
    alone_one =
        xor_below_one (length ws) alone k inside (λ i l z. rw (ne_eqb i k z)) ∙ rw (eq-eqb k k refl)

    marked_lowest : xor_marked ws w ≡ bit_xor (get_or ws k 0) (xor_marked ws (bit_and w (w - 1)))
    unfolding xor_marked
    marked_lowest =
        xor_below_ext (length ws) (λ i. digit i w * get_or ws i 0) (λ i. bit_xor (alone i) (digit i (bit_and w (w - 1)) * get_or ws i 0)) (λ i l. each i)
        ∙ xor_below_xor (length ws) alone (λ i. digit i (bit_and w (w - 1)) * get_or ws i 0)
        ∙ ap (λ (x : ℕ). bit_xor x (xor_below (length ws) (λ i. digit i (bit_and w (w - 1)) * get_or ws i 0))) alone_one

  -- ---- the loop over the marks

  masked : (marks mask : ℕ) → mask ≡ low_mask (length ws) → bit_and marks mask ≡ marks % 2 ^ min (length ws) 64
  unfolding low_mask
  masked marks mask e = ap (bit_and marks) e ∙ and_mask marks (min (length ws) 64)

  pub masked_below : (marks mask : ℕ) → mask ≡ low_mask (length ws) → (bit_and marks mask < 2 ^ 64) × (bit_and marks mask < 2 ^ length ws)
  masked_below marks mask e =
      let short : bit_and marks mask < 2 ^ min (length ws) 64 =
      subst (λ (x : ℕ). x < 2 ^ min (length ws) 64) (sym (masked marks mask e)) (mod-lt marks (pow_pos (min (length ws) 64))) in
      let word : min (length ws) 64 ≤ 64 = omega arith in
      let list : min (length ws) 64 ≤ length ws = omega arith in
      (lt_of_lt_of_le short (pow_mono word), lt_of_lt_of_le short (pow_mono list))

  pub marked_starts : (marks mask : ℕ) → marks < 2 ^ 64 → mask ≡ low_mask (length ws) → bit_xor 0 (xor_marked ws (bit_and marks mask)) ≡ xor_marked ws marks
  marked_starts marks mask h e = ap (xor_marked ws) (masked marks mask e) ∙ marked_masked marks h

  -- a mark within the list's length
  pub mark_inside : (w k : ℕ) → w < 2 ^ length ws → Lowest w k → k < length ws
  mark_inside w k h t =
      dite (dec_lt k (length ws)) (λ (l : k < length ws). l)
      (λ (l : k < length ws → ⊥). let z : ⊥ = omega (arith, digit_past (length ws) w k h (omega arith), t.one) in absurd z)

  pub marked_turns : (w k sum all : ℕ) → w < 2 ^ length ws → Lowest w k → bit_xor sum (xor_marked ws w) ≡ all
      → bit_xor (bit_xor sum (get_or ws k 0)) (xor_marked ws (bit_and w (w - 1))) ≡ all
  marked_turns w k sum all h t e =
      xor_assoc sum (get_or ws k 0) (xor_marked ws (bit_and w (w - 1)))
      ∙ ap (bit_xor sum) (sym (marked_lowest w k t (mark_inside w k h t))) ∙ e

  pub marked_ends : (w sum all : ℕ) → w ≡ 0 → bit_xor sum (xor_marked ws w) ≡ all → sum ≡ all
  marked_ends w sum all ew e = sym (ap (λ (x : ℕ). bit_xor sum (xor_marked ws x)) ew ∙ ap (bit_xor sum) marked_none ∙ xor_zero_r sum) ∙ e
