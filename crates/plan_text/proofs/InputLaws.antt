-- How much of its input the plan printer has to read. Document 01: "An input longer than any set counts as a set of the wrong
-- length." The longest set has 36,632 bytes, and an input that is longer prints what its first 36,633 bytes print:
--
--   longest_set       a set that meets none of its numbers has no more
--   long_refused      a longer input prints its first number
--   long_number       .. which is 8 or an earlier one: one of 1 to 8, or 25
--   long_input        .. and so do its bytes up to the first too many, for any working places and word places
--   long_printed      .. so the plan printer, which reads no more of them, writes the text of the whole input
-- Assumes nothing.
use mathlib.Core.Path.{◌≡◌, refl, sym, ap, ap₂, ◌∙◌}
use mathlib.Core.Bool.{Bool, true, false, cond, not, ◌||◌}
use mathlib.Core.Logic.{◌⊎◌, inl, inr}
use mathlib.Core.List.{List}
use Prim.Native.Nat.{ℕ, suc, ◌*◌, ◌<◌, ◌≤◌}
use native.Mathlib.Nat.{mul-le-mul_right}
use native.Mathlib.Omega.{arith}
use borrow.Author.Tests.{le-ltb, ltb-false, ne_eqb}
use lib.Dec.{ltb}
use lib.ListN.{length, take}
use lib.Seq.{length-take-le}
use Rattle.word.specs.Word.{bad_width}
use Rattle.numbers.specs.Bytes.{number_at, words_at}
use Rattle.word.specs.Reply.{first_of}
use Rattle.word.proofs.BoolLaws.{or_false_right, or_true_left, or_true_right}
use Rattle.numbers.proofs.ByteLaws.{number_at_take, words_at_take}
use Rattle.rows.specs.Row.{row_bytes}
use Rattle.ties.specs.Ties.{most_ties}
use Rattle.register.specs.Circuit.{bad_taps, bad_inversion, bad_chains, too_many_slices}
use Rattle.chains.specs.Driven.{bad_spread}
use Rattle.set_layout.specs.Layout.{taps_at, inversion_at, chains_at, spread_at, slices_at, head_length, set_length, width_of, taps_of, inversion_of, chains_of, spread_of, slices_of, tie_count_of}
use Rattle.set_layout.proofs.LayoutLaws.{good_chains}
use Rattle.set_file.specs.Reading.{bad_slices, wrong_length, set_tests}
use Rattle.set_file.proofs.Laws.{Accepted, accepted, accepted_chains}
use Rattle.planner.proofs.NumberLaws.{set_first}
use Rattle.plan_lines.specs.Lines.{refused_line}
use Rattle.plan_text.specs.PlanText.{plan_text, longest, printed_text}
use Rattle.plan_text.proofs.RefusalLaws.{early_printed}

-- ---- the longest set

set_length_most : (n s k : ℕ) → n ≤ 256 → s ≤ 512 → k ≤ most_ties → set_length n s k ≤ longest
set_length_most n s k hn hs hk =
    let rows : 2 * row_bytes n ≤ 64 = omega arith in omega (arith, mul-le-mul_right s rows)

pub longest_set : (set : List ℕ) → Accepted set → length set ≤ longest
longest_set set a =
    omega (arith, a.long, set_length_most (chains_of set) (slices_of set) (tie_count_of set) (accepted_chains set a).1 a.slices a.few)

-- one that is longer has a wrong length, whatever its count of ties says
too_long : (set : List ℕ) → chains_of set ≤ 256 → slices_of set ≤ 512 → longest < length set → wrong_length set ≡ true
too_long set n s h = by_count (ltb most_ties (tie_count_of set)) refl
  where
    by_count : (b : Bool) → ltb most_ties (tie_count_of set) ≡ b → wrong_length set ≡ true
    by_count true e = or_true_left (ltb most_ties (tie_count_of set)) _ e
    by_count false e =
        or_true_right (ltb most_ties (tie_count_of set)) _
        (ap not
        (ne_eqb (length set) (set_length (chains_of set) (slices_of set) (tie_count_of set))
        (λ (d : length set ≡ set_length (chains_of set) (slices_of set) (tie_count_of set)).
        omega (arith, set_length_most (chains_of set) (slices_of set) (tie_count_of set) n s (ltb-false most_ties (tie_count_of set) e)))))

-- ---- a longer input

alike : (b c : Bool) (n x y : ℕ) → b ≡ c → (c ≡ false → x ≡ y) → cond b n x ≡ cond c n y
alike b true n x y e h = ap (λ (d : Bool). cond d n x) e
alike b false n x y e h = ap (λ (d : Bool). cond d n x) e ∙ h refl

stops : (b : Bool) (n x : ℕ) → b ≡ true → cond b n x ≡ n
stops b n x e = ap (λ (d : Bool). cond d n x) e

-- 8, or a number that is looked for before it
abbrev pub UpToLength : ℕ → Type 0
UpToLength n = (n ≤ 8) ⊎ (n ≡ 25)

sooner : (b : Bool) (n x : ℕ) → UpToLength n → (b ≡ false → UpToLength x) → UpToLength (cond b n x)
sooner true n x l h = l
sooner false n x l h = h refl

at_last : (b : Bool) (n x : ℕ) → n ≤ 8 → b ≡ true → UpToLength (cond b n x)
at_last b n x l e = inl (omega (arith, stops b n x e))

module _ (set : List ℕ) (h : longest < length set) where
  abbrev front : List ℕ
  front = take (suc longest) set

  front_length : length front ≡ suc longest
  front_length = length-take-le (suc longest) set h

  -- neither ends before place n
  neither_ends : (n : ℕ) → n ≤ suc longest → ltb (length front) n ≡ ltb (length set) n
  neither_ends n l = le-ltb (length front) n (omega (arith, front_length)) ∙ sym (le-ltb (length set) n (omega arith))

  same_width : width_of front ≡ width_of set
  same_width = number_at_take 2 set (suc longest) 0 (omega arith)

  same_taps : taps_of front ≡ taps_of set
  same_taps = number_at_take 8 set (suc longest) taps_at (omega arith)

  same_inversion : inversion_of front ≡ inversion_of set
  same_inversion = number_at_take 8 set (suc longest) inversion_at (omega arith)

  same_chains : chains_of front ≡ chains_of set
  same_chains = number_at_take 2 set (suc longest) chains_at (omega arith)

  -- 5 to 8, for a number of chains that does not meet 4
  module _ (n : chains_of set ≤ 256) where
    same_spread : spread_of front ≡ spread_of set
    same_spread = ap (words_at front spread_at) same_chains ∙ words_at_take (chains_of set) set (suc longest) spread_at (omega arith)

    same_slices : slices_of front ≡ slices_of set
    same_slices =
        ap (λ (c : ℕ). number_at 2 front (slices_at c)) same_chains ∙ number_at_take 2 set (suc longest) (slices_at (chains_of set)) (omega arith)

    same_bad_slices : bad_slices front ≡ bad_slices set
    unfolding bad_slices
    same_bad_slices =
        ap₂ (λ (c s : ℕ). ltb (length front) (head_length c) || too_many_slices s) same_chains same_slices
        ∙ ap (λ (b : Bool). b || too_many_slices (slices_of set)) (neither_ends (head_length (chains_of set)) (omega arith))

    few_slices : bad_slices set ≡ false → slices_of set ≤ 512
    unfolding bad_slices
    few_slices e = ltb-false 512 (slices_of set) (or_false_right (ltb (length set) (head_length (chains_of set))) (too_many_slices (slices_of set)) e)

    front_too_long : slices_of set ≤ 512 → wrong_length front ≡ true
    front_too_long s = too_long front (omega (arith, same_chains, n)) (omega (arith, same_slices, s)) (omega (arith, front_length))

  few_chains : (ltb (length set) spread_at || bad_chains (chains_of set)) ≡ false → chains_of set ≤ 256
  few_chains e = (good_chains (chains_of set) (or_false_right (ltb (length set) spread_at) (bad_chains (chains_of set)) e)).1

  same_first : first_of (set_tests front) ≡ first_of (set_tests set)
  unfolding set_tests
  same_first =
      alike _ _ 1 _ _ (neither_ends chains_at (omega arith))
      (λ e1.
      alike _ _ 2 _ _ (ap bad_width same_width)
      (λ e2.
      alike _ _ 3 _ _ (ap₂ bad_taps same_width same_taps)
      (λ e3.
      alike _ _ 25 _ _ (ap₂ bad_inversion same_width same_inversion)
      (λ e25.
      alike _ _ 4 _ _ (ap₂ (λ (b : Bool) (c : ℕ). b || bad_chains c) (neither_ends spread_at (omega arith)) same_chains)
      (λ e4.
      let n : chains_of set ≤ 256 = few_chains e4 in
      alike _ _ 5 _ _ (ap (λ (c : ℕ). ltb (length front) (slices_at c)) same_chains ∙ neither_ends (slices_at (chains_of set)) (omega arith))
      (λ e5.
      alike _ _ 6 _ _ (ap₂ bad_spread same_width (same_spread n))
      (λ e6.
      alike _ _ 7 _ _ (same_bad_slices n)
      (λ e7.
      stops _ 8 _ (front_too_long n (few_slices n e7)) ∙ sym (stops _ 8 _ (too_long set n (few_slices n e7) h))))))))))

  -- the number is 8, for the wrong length, or an earlier one
  pub long_number : UpToLength (first_of (set_tests set))
  unfolding set_tests
  long_number =
      sooner (ltb (length set) chains_at) 1 _ (inl (omega arith))
      (λ e1.
      sooner (bad_width (width_of set)) 2 _ (inl (omega arith))
      (λ e2.
      sooner (bad_taps (width_of set) (taps_of set)) 3 _ (inl (omega arith))
      (λ e3.
      sooner (bad_inversion (width_of set) (inversion_of set)) 25 _ (inr refl)
      (λ e25.
      sooner (ltb (length set) spread_at || bad_chains (chains_of set)) 4 _ (inl (omega arith))
      (λ e4.
      sooner (ltb (length set) (slices_at (chains_of set))) 5 _ (inl (omega arith))
      (λ e5.
      sooner (bad_spread (width_of set) (spread_of set)) 6 _ (inl (omega arith))
      (λ e6.
      sooner (bad_slices set) 7 _ (inl (omega arith))
      (λ e7. at_last _ 8 _ (omega arith) (too_long set (few_chains e4) (few_slices (few_chains e4) e7) h)))))))))

  some_number : first_of (set_tests set) ≡ 0 → ⊥
  some_number z = let l : length set ≤ longest = longest_set set (accepted set z) in omega arith

-- a set that meets one of its numbers prints it
number_printed : (set : List ℕ) (k l : ℕ) → (first_of (set_tests set) ≡ 0 → ⊥) → plan_text set k l ≡ refused_line (first_of (set_tests set))
number_printed set k l h = early_printed set k l (first_of (set_tests set)) (set_first set k _ refl h) h

pub long_refused : (set : List ℕ) (k l : ℕ) → longest < length set → plan_text set k l ≡ refused_line (first_of (set_tests set))
long_refused set k l h = number_printed set k l (some_number set h)

pub long_input : (set : List ℕ) (k l : ℕ) → longest < length set → plan_text (take (suc longest) set) k l ≡ plan_text set k l
long_input set k l h =
    number_printed (take (suc longest) set) k l (λ (z : first_of (set_tests (take (suc longest) set)) ≡ 0). some_number set h (sym (same_first set h) ∙ z))
    ∙ ap refused_line (same_first set h) ∙ sym (long_refused set k l h)

pub long_printed : (set : List ℕ) → longest < length set → printed_text (take (suc longest) set) ≡ printed_text set
unfolding printed_text
long_printed set h = long_input set 4096 64 h
