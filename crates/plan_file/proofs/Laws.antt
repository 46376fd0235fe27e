-- What the crates above cite of plan files:
--
--   Taken, taken      what is known of a plan that meets none of the numbers 19 to 22
--   taken_long        .. it doesn't end before its last word
--   taken_reply       .. and the check answers for a plan of which it is known with its parts
--   refused_plan      after a plan that the check refused, a call refuses with the same number
--   sound_plan        after one that it didn't, the plan is taken, the parts are its own, and the tests that follow decide
--   taken_read        the reader answers for a taken plan with its parts, where the list has room
--   read_taken        .. and what it answers for is taken, the parts are its own, and the list has room
-- Assumes nothing.
use mathlib.Core.Path.{◌≡◌, sym, ap, ◌∙◌}
use mathlib.Core.Bool.{Bool, true, false, not, ◌||◌}
use mathlib.Core.List.{List, [], ◌∷◌, ◌++◌}
use Prim.Native.Nat.{ℕ, zero, suc, ◌^◌, ◌<◌, ◌≤◌}
use native.Mathlib.Omega.{arith}
use borrow.Author.Tests.{eqb-true, eq-eqb, le-ltb, ltb-false, not-false}
use lib.Dec.{eqb, ltb}
use lib.ListN.{length}
use Rattle.word.specs.Reply.{Test, ◌when◌, answer, refusal, first_of, replied, reply}
use Rattle.word.proofs.BoolLaws.{or_false_left, or_false_right}
use Rattle.word.proofs.ReplyLaws.{none_applies}
use Rattle.word.specs.Word.{bad_width, beyond}
use Rattle.word.proofs.TestLaws.{first_of_sooner, first_of_none, replied_answer, replied_alike}
use Rattle.word.proofs.WordLaws.{within, not_beyond}
use Rattle.combinations.specs.Reduced.{is_reduced}
use Rattle.reduced_list.specs.WordCount.{bad_word_count}
use Rattle.reduced_list.proofs.CountLaws.{not_bad_count}
use Rattle.plan_file.specs.Layout.{again_at, bits_at, plan_length, file_width, file_count, file_words, file_again, file_expected}
use Rattle.plan_file.specs.Checking.{bad_plan_width, bad_plan_count, bad_plan_end, plan_file_tests, PlanFileParts, file_parts, plan_check_reply}
use Rattle.plan_file.specs.Reading.{plan_read_tests, plan_file_reply}
use Rattle.plan_file.proofs.TestLaws.{width_good, count_good}

-- none of the four tests applies
pub record NoneApplies (plan : List ℕ) : Type 0 where
  pub width : bad_plan_width plan ≡ false
  pub count : bad_plan_count plan ≡ false
  pub words : not (is_reduced (file_width plan) (file_words plan)) ≡ false
  pub ending : bad_plan_end plan ≡ false

pub none_of_plan : (plan : List ℕ) → first_of (plan_file_tests plan) ≡ 0 → NoneApplies plan
unfolding plan_file_tests
none_of_plan plan h =
    let a = none_applies (bad_plan_width plan) 18 _ h in
    let h1 = rw a at h in
    let b = none_applies (bad_plan_count plan) 19 _ h1 in
    let h2 = rw b at h1 in
    let c = none_applies (not (is_reduced (file_width plan) (file_words plan))) 20 _ h2 in
    let h3 = rw c at h2 in
    record { width = a; count = b; words = c; ending = none_applies (bad_plan_end plan) 21 _ h3 }

first_after_plan : (plan : List ℕ) (us : List Test) → first_of (plan_file_tests plan) ≡ 0 → first_of (plan_file_tests plan ++ us) ≡ first_of us
unfolding plan_file_tests
first_after_plan plan us h =
    let none : NoneApplies plan = none_of_plan plan h in
    rw (none.width, none.count, none.words, none.ending)

-- ---- what a taken plan knows

pub record Taken (plan : List ℕ) : Type 0 where
  pub width_positive : 1 ≤ file_width plan
  pub width_most : file_width plan ≤ 64
  pub count_positive : 1 ≤ file_count plan
  pub count_most : file_count plan ≤ file_width plan
  pub reduced : is_reduced (file_width plan) (file_words plan) ≡ true
  pub again : file_again plan ≡ file_count plan
  pub exact : length plan ≡ plan_length (file_count plan)
  pub expected_inside : file_expected plan < 2 ^ file_count plan

module _ (plan : List ℕ) where
  abbrev short : Bool
  short = ltb (length plan) (bits_at (file_count plan))

  abbrev other : Bool
  other = not (eqb (file_again plan) (file_count plan))

  abbrev inexact : Bool
  inexact = not (eqb (length plan) (plan_length (file_count plan)))

  end_again : bad_plan_end plan ≡ false → file_again plan ≡ file_count plan
  unfolding bad_plan_end
  end_again h =
      eqb-true _ _ (not-false _ (or_false_right short other (or_false_left (short || other) inexact (or_false_left (short || other || inexact) _ h))))

  end_length : bad_plan_end plan ≡ false → length plan ≡ plan_length (file_count plan)
  unfolding bad_plan_end
  end_length h =
      eqb-true _ _ (not-false _ (or_false_right (short || other) inexact (or_false_left (short || other || inexact) _ h)))

  end_expected : bad_plan_end plan ≡ false → file_expected plan < 2 ^ file_count plan
  unfolding bad_plan_end
  end_expected h = within (file_count plan) (file_expected plan) (or_false_right (short || other || inexact) _ h)

pub taken : (plan : List ℕ) → first_of (plan_file_tests plan) ≡ 0 → Taken plan
taken plan h =
    let none : NoneApplies plan = none_of_plan plan h in
    record {
      width_positive = (width_good plan none.width).0;
      width_most = (width_good plan none.width).1;
      count_positive = (count_good plan none.count).0;
      count_most = (count_good plan none.count).1;
      reduced = not-false _ none.words;
      again = end_again plan none.ending;
      exact = end_length plan none.ending;
      expected_inside = end_expected plan none.ending;
    }

-- a taken plan doesn't end before its last word
pub taken_long : (plan : List ℕ) → Taken plan → again_at (file_count plan) ≤ length plan
taken_long plan t = omega (arith, t.exact)

-- ---- a plan that is right in each part meets no number

taken_back : (plan : List ℕ) → Taken plan → first_of (plan_file_tests plan) ≡ 0
unfolding plan_file_tests bad_plan_width bad_plan_count bad_plan_end bad_width
taken_back plan t =
    let q = file_count plan in
    let a1 : ltb (length plan) 2 ≡ false = le-ltb (length plan) 2 (omega (arith, t.exact)) in
    let a2 : ltb (file_width plan) 1 ≡ false = le-ltb (file_width plan) 1 t.width_positive in
    let a3 : ltb 64 (file_width plan) ≡ false = le-ltb 64 (file_width plan) t.width_most in
    let b1 : ltb (length plan) 4 ≡ false = le-ltb (length plan) 4 (omega (arith, t.exact)) in
    let b2 : bad_word_count (file_width plan) q ≡ false = not_bad_count (file_width plan) q t.count_positive t.count_most in
    let b3 : ltb (length plan) (again_at q) ≡ false = le-ltb (length plan) (again_at q) (omega (arith, t.exact)) in
    let d1 : ltb (length plan) (bits_at q) ≡ false = le-ltb (length plan) (bits_at q) (omega (arith, t.exact)) in
    let d2 : eqb (file_again plan) q ≡ true = eq-eqb (file_again plan) q t.again in
    let d3 : eqb (length plan) (plan_length q) ≡ true = eq-eqb (length plan) (plan_length q) t.exact in
    let d4 : beyond q (file_expected plan) ≡ false = not_beyond q (file_expected plan) t.expected_inside in
    rw (a1, a2, a3, b1, b2, b3, t.reduced, d1, d2, d3, d4)

-- ---- the check's reply

refuses_some : {A : Type 0} (n : ℕ) (a : A) (k : ℕ) → replied n a ≡ refusal k → n ≡ 0 → ⊥
refuses_some zero a k h z = let c : ◌≡◌ {A = ℕ} 0 1 = cc in omega arith
refuses_some (suc n) a k h z = omega arith

pub refused_plan : {A : Type 0} (plan : List ℕ) (us : List Test) (a : A) (k : ℕ) → plan_check_reply plan ≡ refusal k
    → reply (plan_file_tests plan ++ us) a ≡ refusal k
unfolding plan_check_reply
refused_plan plan us a k h =
    let n = first_of (plan_file_tests plan) in
    ap (λ (x : ℕ). replied x a) (first_of_sooner (plan_file_tests plan) us (refuses_some n (file_parts plan) k h))
    ∙ replied_alike n (file_parts plan) a k h

pub sound_plan : {A : Type 0} (plan : List ℕ) (us : List Test) (a : A) (p : PlanFileParts) → plan_check_reply plan ≡ answer p
    → Taken plan × (p ≡ file_parts plan) × (reply (plan_file_tests plan ++ us) a ≡ reply us a)
unfolding plan_check_reply
sound_plan plan us a p h =
    let both = replied_answer (first_of (plan_file_tests plan)) (file_parts plan) p h in (
      taken plan both.0,
      both.1,
      ap (λ (x : ℕ). replied x a) (first_after_plan plan us both.0),
    )

pub taken_reply : (plan : List ℕ) → Taken plan → plan_check_reply plan ≡ answer (file_parts plan)
unfolding plan_check_reply
taken_reply plan t = ap (λ (n : ℕ). replied n (file_parts plan)) (taken_back plan t)

-- ---- the reader's reply

pub taken_read : (plan : List ℕ) (room : ℕ) → Taken plan → file_count plan ≤ room → plan_file_reply plan room ≡ answer (file_parts plan)
unfolding plan_file_reply plan_read_tests
taken_read plan room t h =
    (sound_plan plan (18 when ltb room (file_count plan) ∷ []) (file_parts plan) (file_parts plan) (taken_reply plan t)).2
    ∙ rw (le-ltb room (file_count plan) h)

pub read_taken : (plan : List ℕ) (room : ℕ) (p : PlanFileParts) → plan_file_reply plan room ≡ answer p
    → Taken plan × (p ≡ file_parts plan) × (file_count plan ≤ room)
unfolding plan_file_reply plan_read_tests
read_taken plan room p h =
    let tests = 18 when ltb room (file_count plan) ∷ [] in
    let both = replied_answer (first_of (plan_file_tests plan ++ tests)) (file_parts plan) p h in
    let none : first_of (plan_file_tests plan) ≡ 0 = first_of_none (plan_file_tests plan) tests both.0 in
    let last : first_of tests ≡ 0 = sym (first_after_plan plan tests none) ∙ both.0 in
    (taken plan none, both.1, ltb-false room (file_count plan) (none_applies (ltb room (file_count plan)) 17 0 last))
