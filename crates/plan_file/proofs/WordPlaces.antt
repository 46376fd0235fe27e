-- The words of a plan by their places, and the loops that go through them. Assumes nothing.
use mathlib.Core.Path.{◌≡◌, refl, sym, ap, ap₂, ◌∙◌}
use mathlib.Core.Bool.{Bool, true, false, not}
use mathlib.Core.List.{List}
use Prim.Native.Nat.{ℕ, zero, suc, ◌+◌, ◌*◌, ◌^◌, ◌<◌, ◌≤◌}
use native.Mathlib.Omega.{arith}
use lib.ListN.{length, get_or}
use lib.Pow.{pow_pos}
use Rattle.numbers.specs.Bytes.{word_at, words_at}
use Rattle.numbers.proofs.ByteLaws.{length_words_at, number_at_lt}
use Rattle.numbers.proofs.FileLaws.{word_at_place}
use Rattle.word.specs.Word.{beyond}
use Rattle.combinations.specs.Reduced.{is_reduced}
use Rattle.combinations.specs.Pass.{with_top}
use Rattle.reduced_list.specs.TopPass.{next_above}
use Rattle.reduced_list.proofs.TopLaws.{tops_exactly, Passed, passed_start, passed_turn, passed_stop, passed_end}
use Rattle.plan_file.specs.Layout.{again_at, file_width, file_count, file_words}

pub plan_words_length : (plan : List ℕ) → length (file_words plan) ≡ file_count plan
plan_words_length plan = length_words_at plan 4 (file_count plan)

-- words of bytes have 64 bits
words_small : (s : List ℕ) → ((i : ℕ) → get_or s i 0 < 256) → (at k i : ℕ) → get_or (words_at s at k) i 0 < 2 ^ 64
unfolding words_at
words_small s bytes at zero i = pow_pos 64
words_small s bytes at (suc k) zero = number_at_lt 8 s at bytes
words_small s bytes at (suc k) (suc i) = words_small s bytes (at + 8) k i

-- ---- one pass over the first q words of a plan that has them all

pub record PlanPassed (plan : List ℕ) (q seen i : ℕ) : Type 0 where
  pub long : again_at q ≤ length plan
  pub inside : i ≤ q
  pub rest : Passed (words_at plan 4 q) seen i

pub plan_passed_start : (plan : List ℕ) (q : ℕ) → again_at q ≤ length plan → PlanPassed plan q 0 0
plan_passed_start plan q l = record { long = l; inside = omega arith; rest = passed_start (words_at plan 4 q) }

-- the next word is there
pub next_there : (plan : List ℕ) (q seen i : ℕ) → PlanPassed plan q seen i → i < q → 4 + 8 * i + 8 ≤ length plan
next_there plan q seen i p h = omega (arith, p.long)

module _ (plan : List ℕ) (q seen i : ℕ) (p : PlanPassed plan q seen i) where
  below_words : i < q → i < length (words_at plan 4 q)
  below_words h = omega (arith, length_words_at plan 4 q)

  module _ (w : ℕ) (b : Bool) (h : i < q) (a : w ≡ word_at plan (4 + 8 * i)) (f : b ≡ next_above seen w) where
    same : w ≡ get_or (words_at plan 4 q) i 0
    same = a ∙ sym (word_at_place plan 4 q i h)

    pub plan_passed_turn : (seen' : ℕ) → not b ≡ false → seen' ≡ with_top seen w → PlanPassed plan q seen' (i + 1)
    plan_passed_turn seen' n t =
        record {
          long = p.long;
          inside = omega arith;
          rest = passed_turn (words_at plan 4 q) seen seen' i w b p.rest (below_words h) same f n t;
        }

    pub plan_passed_stop : ((i : ℕ) → get_or plan i 0 < 256) → not b ≡ true → (m : ℕ) → true ≡ not (is_reduced m (words_at plan 4 q))
    plan_passed_stop bytes n m =
        ap not
        (passed_stop (words_at plan 4 q) seen i w b p.rest (below_words h) same f n m
        ∙ sym (tops_exactly m (words_at plan 4 q) (words_small plan bytes 4 q)))

  pub plan_passed_end : ((i : ℕ) → get_or plan i 0 < 256) → q ≤ i → (m : ℕ) → beyond m seen ≡ not (is_reduced m (words_at plan 4 q))
  plan_passed_end bytes h m =
      let all : length (words_at plan 4 q) ≤ i = omega (arith, length_words_at plan 4 q) in
      sym (not_not (beyond m seen))
      ∙ ap not
      (passed_end (words_at plan 4 q) seen i p.rest all m
      ∙ sym (tops_exactly m (words_at plan 4 q) (words_small plan bytes 4 q)))
    where
      not_not : (b : Bool) → not (not b) ≡ b
      not_not true = refl
      not_not false = refl

-- .. and where these are the plan's own words and m is its width
pub own_words : (plan : List ℕ) (m q : ℕ) (b : Bool) → m ≡ file_width plan → q ≡ file_count plan → b ≡ not (is_reduced m (words_at plan 4 q))
    → b ≡ not (is_reduced (file_width plan) (file_words plan))
own_words plan m q b e f h = h ∙ ap₂ (λ (x n : ℕ). not (is_reduced x (words_at plan 4 n))) e f
