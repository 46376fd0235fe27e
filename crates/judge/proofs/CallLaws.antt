-- The loop over the plan's words, and each way out of judging. Assumes nothing.
use mathlib.Core.Path.{◌≡◌, refl, sym, ap, ap₂, ◌∙◌, subst}
use mathlib.Core.Bool.{Bool, true, false, not, ◌||◌}
use mathlib.Core.List.{List, [], ◌∷◌}
use Prim.Native.Nat.{ℕ, zero, suc, ◌+◌, ◌*◌, ◌%◌, ◌^◌, ◌<◌, ◌≤◌}
use native.Mathlib.Nat.{mul-le-mul_right, mul_assoc, pow-suc, not-suc-le-zero, le_of_suc-le-suc}
use native.Mathlib.Numerals.{add-one}
use native.Mathlib.Omega.{arith}
use borrow.Author.Tests.{lt-ltb, le-ltb, ltb-false, not-true, not-false}
use lib.Bits.{bit_xor}
use lib.Count.{count_trailing_zeros}
use lib.Dec.{ltb}
use lib.ListN.{length, get_or, take}
use lib.Pow.{pow_mono, shl_exact}
use lib.Seq.{take_all, length-take-le}
use Rattle.word.specs.Word.{beyond, parity}
use Rattle.numbers.specs.Bytes.{word_at, words_at}
use Rattle.word.specs.Parities.{parities}
use Rattle.word.specs.Reply.{answer, refusal, replied, first_of, ◌when◌}
use Rattle.numbers.proofs.ByteLaws.{length_words_at}
use Rattle.numbers.proofs.FileLaws.{word_at_place}
use Rattle.word.proofs.Laws.{parity_lt, parities_lt}
use Rattle.word.proofs.BoolLaws.{or_false_left, true_not_false}
use Rattle.combinations.specs.Pass.{with_top}
use Rattle.combinations.specs.Reduced.{is_reduced}
use Rattle.reduced_list.specs.TopPass.{next_above}
use Rattle.plan_file.specs.Layout.{again_at, file_width, file_count, file_words, file_expected}
use Rattle.plan_file.specs.Checking.{Listed, PlanFileParts, file_parts, plan_check_reply, said_checked}
use Rattle.plan_file.specs.declared.PlanHead.{PlanHead}
use Rattle.std.specs.Prelude.{Result, Ok, Err, MatchOption, IsSome, is_some}
use Rattle.std.specs.declared.option.Option.{Option}
use Rattle.std.specs.declared.option.Option.TheVariants.{None, Some}
use Rattle.refusals.specs.declared.Refusal.{Refusal}
use Rattle.refusals.specs.Refusals.{number}
use Rattle.judge.specs.declared.Judgment.{Judgment}
use Rattle.plan_file.proofs.Laws.{Taken, taken_long, refused_plan, sound_plan}
use Rattle.plan_file.proofs.WordPlaces.{plan_words_length, PlanPassed, plan_passed_start, plan_passed_turn, plan_passed_stop, plan_passed_end, own_words}
use Rattle.judge.specs.Verdict.{Outcome, passes, fails_at, verdict, Finding, judge_tests, judge_reply, said}
use Rattle.judge.proofs.Verdicts.{agrees_by_xor, fails_by_xor}

-- ---- the cancelled bits, from the first word to the last

-- the first q words of a plan
abbrev words : List ℕ → ℕ → List ℕ
words plan q = words_at plan 4 q

-- one word more gives one bit more
parities_next : (ws : List ℕ) (y i : ℕ) → i < length ws → parities (take (suc i) ws) y ≡ parities (take i ws) y + parity (get_or ws i 0) y * 2 ^ i
unfolding parities
parities_next [] y i h = absurd (not-suc-le-zero h)
parities_next (w ∷ ws) y zero h = omega arith
parities_next (w ∷ ws) y (suc i) h =
    let later = parities_next ws y i (le_of_suc-le-suc h) in
    let twice : parity (get_or ws i 0) y * 2 ^ suc i ≡ parity (get_or ws i 0) y * 2 ^ i * 2 = ap (λ (n : ℕ). parity (get_or ws i 0) y * n) (pow-suc 2 i) ∙ sym (mul_assoc (parity (get_or ws i 0) y) (2 ^ i) 2) in
    omega (arith, later, twice)

pub record Cancelled (plan : List ℕ) (y q tops bits i : ℕ) : Type 0 where
  pub few : q ≤ 64
  pub passed : PlanPassed plan q tops i
  pub done : bits ≡ parities (take i (words plan q)) y

pub cancelled_start : (plan : List ℕ) (y q : ℕ) → (q ≤ 64) × (again_at q ≤ length plan) → Cancelled plan y q 0 0 0
unfolding parities
cancelled_start plan y q h = record { few = h.0; passed = plan_passed_start plan q h.1; done = refl }

module _ (plan : List ℕ) (y q tops bits i : ℕ) (r : Cancelled plan y q tops bits i) where
  -- as many bits as words passed
  bits_low : bits < 2 ^ i
  bits_low =
      let all : i ≤ length (words plan q) = omega (arith, length_words_at plan 4 q, r.passed.inside) in
      rw r.done (subst (λ (n : ℕ). parities (take i (words plan q)) y < 2 ^ n) (length-take-le i (words plan q) all) (parities_lt (take i (words plan q)) y))

  module _ (h : i < q) (p : ℕ) (one : p < 2) where
    pub bit_small : i < 64
    bit_small = omega (arith, r.few)

    bit_there : (p * 2 ^ i) % 18446744073709551616 ≡ p * 2 ^ i
    bit_there = shl_exact {a = p} 1 i 64 one (omega (arith, bit_small))

    -- there is room for one bit more
    pub bits_room : bits + (p * 2 ^ i) % 18446744073709551616 < 18446744073709551616
    bits_room =
        let most : p * 2 ^ i ≤ 1 * 2 ^ i = mul-le-mul_right (2 ^ i) (omega arith) in
        let twice : 2 ^ suc i ≡ 2 ^ i * 2 = pow-suc 2 i in
        let next : suc i ≤ 64 = omega (arith, bit_small) in
        let fits : 2 ^ suc i ≤ 2 ^ 64 = pow_mono next in
        rw bit_there (omega (arith, bits_low, most, twice, fits))

  pub cancelled_turn : (w p tops' : ℕ) (b : Bool) → i < q → w ≡ word_at plan (4 + 8 * i) → b ≡ next_above tops w → not b ≡ false → tops' ≡ with_top tops w
      → p ≡ parity w y → Cancelled plan y q tops' (bits + (p * 2 ^ i) % 18446744073709551616) (i + 1)
  cancelled_turn w p tops' b h a f n t e =
      let below : i < length (words plan q) = omega (arith, length_words_at plan 4 q) in
      let same : p ≡ parity (get_or (words plan q) i 0) y = e ∙ ap (λ (x : ℕ). parity x y) (a ∙ sym (word_at_place plan 4 q i h)) in
      let one : p < 2 = rw e (parity_lt w y) in
      record {
        few = r.few;
        passed = plan_passed_turn plan q tops i r.passed w b h a f tops' n t;
        done =
            ap₂ (λ (x z : ℕ). x + z) r.done (bit_there h p one ∙ ap (λ (x : ℕ). x * 2 ^ i) same)
            ∙ sym (parities_next (words plan q) y i below) ∙ ap (λ (k : ℕ). parities (take k (words plan q)) y) (sym (add-one i));
      }

  module _ (bytes : (j : ℕ) → get_or plan j 0 < 256) where
    -- a word was met that can't follow
    pub pass_stops : (w : ℕ) (b : Bool) → i < q → w ≡ word_at plan (4 + 8 * i) → b ≡ next_above tops w → not b ≡ true
        → ((m : ℕ) → (ltb i q || beyond m tops) ≡ not (is_reduced m (words plan q))) × (ltb i q ≡ false → bits ≡ parities (words plan q) y)
    pass_stops w b h a f n = (
      λ m. ap (λ (x : Bool). x || beyond m tops) (lt-ltb i q h) ∙ plan_passed_stop plan q tops i r.passed w b h a f bytes n m,
      λ e. let no : ⊥ = omega (arith, ltb-false i q e) in absurd no,
    )

    -- all words were passed
    pub pass_ends : q ≤ i
        → ((m : ℕ) → (ltb i q || beyond m tops) ≡ not (is_reduced m (words plan q))) × (ltb i q ≡ false → bits ≡ parities (words plan q) y)
    pass_ends h =
        let all : length (words plan q) ≤ i = omega (arith, length_words_at plan 4 q) in (
          λ m. ap (λ (x : Bool). x || beyond m tops) (le-ltb i q h) ∙ plan_passed_end plan q tops i r.passed bytes h m,
          λ e. r.done ∙ ap (λ (l : List ℕ). parities l y) (take_all i (words plan q) all),
        )

    -- .. said of q, where the loop is behind the last word
    pub pass_all : i ≡ q
        → ((m : ℕ) → (ltb q q || beyond m tops) ≡ not (is_reduced m (words plan q))) × (ltb q q ≡ false → bits ≡ parities (words plan q) y)
    pass_all e =
        subst (λ (k : ℕ). ((m : ℕ) → (ltb k q || beyond m tops) ≡ not (is_reduced m (words plan q))) × (ltb k q ≡ false → bits ≡ parities (words plan q) y))
        e (pass_ends (omega arith))

-- ---- what the pass finds

-- whether the words aren't a reduced list for m, by what a pass left
module _ (plan : List ℕ) (y m q passed tops bits : ℕ) (b : Bool) (eb : b ≡ beyond m tops)
    (list : (n : ℕ) → (ltb passed q || beyond n tops) ≡ not (is_reduced n (words plan q))) where
  decided : (ltb passed q || b) ≡ not (is_reduced m (words plan q))
  decided = ap (λ (x : Bool). ltb passed q || x) eb ∙ list m

  pub pass_bad : (ltb passed q || b) ≡ true → is_reduced m (words plan q) ≡ false
  pass_bad t = not-true _ (sym decided ∙ t)

  pub pass_good : (ltb passed q ≡ false → bits ≡ parities (words plan q) y) → (ltb passed q || b) ≡ false
      → (is_reduced m (words plan q) ≡ true) × (bits ≡ parities (words plan q) y)
  pass_good done f = (not-false _ (sym decided ∙ f), done (or_false_left (ltb passed q) b f))

-- what is known of the cancelled bits of a plan's words, where there are any
abbrev pub BitsFound : List ℕ → ℕ → Option ℕ → Type 0
BitsFound plan y r = MatchOption r (Listed plan true) (λ (bits : ℕ). Listed plan false × (bits ≡ parities (file_words plan) y))

-- a plan whose words aren't gone over has too many, or not all of them
pub found_none : (plan : List ℕ) → (file_count plan ≤ 64 → again_at (file_count plan) ≤ length plan → ⊥) → Listed plan true
found_none plan never = λ few there. absurd (never few there)

pub found_all : (plan : List ℕ) (y m q : ℕ) (r : Option ℕ) → m ≡ file_width plan → q ≡ file_count plan
    → MatchOption r (is_reduced m (words plan q) ≡ false) (λ (bits : ℕ). (is_reduced m (words plan q) ≡ true) × (bits ≡ parities (words plan q) y))
    → BitsFound plan y r
found_all plan y m q None em eq h = λ few there. own_words plan m q true em eq (ap not (sym h))
found_all plan y m q (Some bits) em eq h = (
  λ few there. own_words plan m q false em eq (ap not (sym h.0)),
  h.1 ∙ ap (λ (n : ℕ). parities (words plan n) y) eq,
)

-- whether they are missing says whether number 21 applies
pub found_listed : (plan : List ℕ) (y : ℕ) (r : Option ℕ) (b : Bool) → is_some r ≡ not b → BitsFound plan y r → Listed plan b
found_listed plan y None true e h = h
found_listed plan y None false e h = absurd (true_not_false true refl (sym e))
found_listed plan y (Some bits) true e h = absurd (true_not_false true refl e)
found_listed plan y (Some bits) false e h = h.0

found_value : (plan : List ℕ) (y : ℕ) (r : Option ℕ) (bits : ℕ) → BitsFound plan y r → r ≡ Some bits → bits ≡ parities (file_words plan) y
found_value plan y r bits h is = (rw is at h).1

-- ---- the ways out

abbrev finding : List ℕ → ℕ → Finding
finding plan y = record { cancelled = parities (file_words plan) y; outcome = verdict (file_words plan) (file_expected plan) y }

-- the check refused the plan
pub unsound_reply : (plan : List ℕ) (y : ℕ) (e : Refusal) → refusal (number e) ≡ plan_check_reply plan → refusal (number e) ≡ judge_reply plan y
unfolding judge_reply judge_tests
unsound_reply plan y e h =
    sym (refused_plan plan (23 when beyond (file_width plan) y ∷ []) (finding plan y) (number e) (sym h))

pub judged_unsound : (plan : List ℕ) (y : ℕ) (r : Result Judgment Refusal) (e : Refusal) → r ≡ Err e → refusal (number e) ≡ plan_check_reply plan
    → said r ≡ judge_reply plan y
judged_unsound plan y r e is h = ap said is ∙ unsound_reply plan y e h

-- .. or answered for it, and b says whether the signature has a bit at or above m
module _ (plan : List ℕ) (y : ℕ) (p : PlanHead) (h : said_checked (Ok p) ≡ plan_check_reply plan) (r : Option ℕ) (found : BitsFound plan y r) where
  -- a sound plan's words are at most 64, all there, and a reduced list
  sound : Taken plan × (record { m = p.m; q = p.q; expected = p.expected } ≡ file_parts plan)
      × (judge_reply plan y ≡ replied (first_of (23 when beyond (file_width plan) y ∷ [])) (finding plan y))
  unfolding judge_reply judge_tests
  sound =
      sound_plan plan (23 when beyond (file_width plan) y ∷ []) (finding plan y) (record { m = p.m; q = p.q; expected = p.expected }) (sym h)

  -- .. so their bits were found
  pub bits_there : IsSome r
  bits_there = there r found
    where
      there : (o : Option ℕ) → BitsFound plan y o → IsSome o
      there None never =
          let t : Taken plan = sound.0 in
          absurd (true_not_false true refl (never (omega (arith, t.width_most, t.count_most)) (taken_long plan t) ∙ ap not t.reduced))
      there (Some bits) f = refl

  module _ (b : Bool) (eb : b ≡ beyond p.m y) where
    same_width : b ≡ beyond (file_width plan) y
    same_width = eb ∙ ap (λ (k : PlanFileParts). beyond k.m y) sound.1

    pub judged_beyond : b ≡ true → refusal 23 ≡ judge_reply plan y
    judged_beyond t = sym (rw (sym same_width ∙ t) at sound).2

    module _ (within : b ≡ false) (bits : ℕ) (is : r ≡ Some bits) where
      judged_answer : judge_reply plan y ≡ answer (finding plan y)
      judged_answer = (rw (sym same_width ∙ within) at sound).2

      cancelled : bits ≡ parities (file_words plan) y
      cancelled = found_value plan y r bits found is

      wanted : p.expected ≡ file_expected plan
      wanted = ap (λ (k : PlanFileParts). k.expected) sound.1

      short : length (file_words plan) ≤ 64
      short = omega (arith, plan_words_length plan, sound.0.width_most, sound.0.count_most)

      inside : file_expected plan < 2 ^ length (file_words plan)
      inside = rw (plan_words_length plan) sound.0.expected_inside

      pub judged_passes : bit_xor bits p.expected ≡ 0 → answer (record { cancelled = bits; outcome = passes }) ≡ judge_reply plan y
      judged_passes z =
          let o : verdict (file_words plan) (file_expected plan) y ≡ passes =
          agrees_by_xor (file_words plan) 64 (file_expected plan) y short inside (sym (ap₂ bit_xor cancelled wanted) ∙ z)
          in
          ap₂ (λ (x : ℕ) (v : Outcome). answer (record { cancelled = x; outcome = v })) cancelled (sym o) ∙ sym judged_answer

      pub judged_fails : (bit_xor bits p.expected ≡ 0 → ⊥) → (i : ℕ) → i ≡ count_trailing_zeros 64 (bit_xor bits p.expected)
          → answer (record { cancelled = bits; outcome = fails_at i }) ≡ judge_reply plan y
      judged_fails n i at =
          let same : bit_xor bits p.expected ≡ bit_xor (parities (file_words plan) y) (file_expected plan) = ap₂ bit_xor cancelled wanted in
          let o : verdict (file_words plan) (file_expected plan) y ≡ fails_at (count_trailing_zeros 64 (bit_xor (parities (file_words plan) y) (file_expected plan))) =
          fails_by_xor (file_words plan) 64 (file_expected plan) y short inside (λ z. n (same ∙ z))
          in
          ap₂ (λ (x : ℕ) (v : Outcome). answer (record { cancelled = x; outcome = v })) cancelled
          (ap fails_at at ∙ ap (λ (d : ℕ). fails_at (count_trailing_zeros 64 d)) same ∙ sym o)
          ∙ sym judged_answer
