-- Each way out of the check and of the plan reader, and what the reader answers and leaves in the lent list. Assumes nothing.
use mathlib.Core.Path.{◌≡◌, refl, sym, ap, ap₂, ◌∙◌}
use mathlib.Core.List.{List, [], ◌∷◌}
use Prim.Native.Nat.{ℕ, ◌+◌, ◌*◌, ◌<◌, ◌≤◌}
use native.Mathlib.Numerals.{add-one}
use native.Mathlib.Omega.{arith}
use borrow.Author.Tests.{lt-ltb, le-ltb}
use lib.Dec.{ltb}
use lib.ListN.{length, take, set}
use Rattle.numbers.specs.Bytes.{word_at}
use Rattle.numbers.proofs.FileLaws.{word_at_place}
use Rattle.word.specs.Reply.{Reply, answer, refusal, replied, first_of, ◌when◌, front}
use Rattle.word.proofs.FrontLaws.{front_next, front_whole}
use Rattle.word.proofs.ReplyLaws.{Leaves, refusal_leaves, answer_leaves}
use Rattle.plan_file.specs.Layout.{again_at, plan_length, file_width, file_count, file_words, file_expected}
use Rattle.plan_file.specs.Checking.{plan_file_tests, PlanFileParts, file_parts, plan_check_reply, said_checked}
use Rattle.plan_file.specs.Reading.{plan_read_tests, plan_file_reply, said}
use Rattle.std.specs.Prelude.{Result, Ok, Err}
use Rattle.refusals.specs.declared.Refusal.{Refusal}
use Rattle.refusals.specs.declared.Refusal.TheVariants.{ShortWordList}
use Rattle.refusals.specs.Refusals.{number}
use Rattle.refusals.proofs.RefusalLaws.{refused_call}
use Rattle.plan_file.specs.declared.PlanHead.{PlanHead}
use Rattle.plan_file.proofs.Laws.{Taken, taken, taken_long, refused_plan, sound_plan}
use Rattle.plan_file.proofs.WordPlaces.{plan_words_length}

parts : {m w q k y e : ℕ} → m ≡ w → q ≡ k → y ≡ e
    → ◌≡◌ {A = Reply PlanFileParts} (answer (record { m = m; q = q; expected = y })) (answer (record { m = w; q = k; expected = e }))
parts a b c = cc

-- ---- the check

pub checks_refused : (plan : List ℕ) (r : Result PlanHead Refusal) (e : Refusal) → r ≡ Err e → number e ≡ first_of (plan_file_tests plan)
    → said_checked r ≡ plan_check_reply plan
unfolding plan_check_reply
checks_refused plan r e is h =
    refused_call (λ (p : PlanHead). record { m = p.m; q = p.q; expected = p.expected }) r e (first_of (plan_file_tests plan)) (file_parts plan) is h

pub checks_sound : (plan : List ℕ) (m q bits : ℕ) → 0 ≡ first_of (plan_file_tests plan) → m ≡ file_width plan → q ≡ file_count plan
    → bits ≡ file_expected plan → answer (record { m = m; q = q; expected = bits }) ≡ plan_check_reply plan
unfolding plan_check_reply
checks_sound plan m q bits none a b f = parts a b f ∙ ap (λ (k : ℕ). replied k (file_parts plan)) none

-- past the tests the expected bits end with the plan
pub checked_bits : (plan : List ℕ) → 0 ≡ first_of (plan_file_tests plan)
    → (length plan ≡ plan_length (file_count plan)) × (1 ≤ file_count plan) × (file_count plan ≤ 64)
checked_bits plan none =
    let t : Taken plan = taken plan (sym none) in
    (t.exact, t.count_positive, omega (arith, t.width_most, t.count_most))

-- ---- the reader

-- what the reader answers, a, and leaves in the list l, l'
abbrev pub Ends : List ℕ → List ℕ → Result PlanHead Refusal → List ℕ → Type 0
Ends plan l a l' = Leaves (plan_file_reply plan (length l)) (file_words plan) (said a) l l'

-- the check refused the plan
pub ends_unsound : (plan l : List ℕ) (r : Result PlanHead Refusal) (e : Refusal) → r ≡ Err e → refusal (number e) ≡ plan_check_reply plan → Ends plan l r l
unfolding plan_file_reply plan_read_tests
ends_unsound plan l r e is h =
    refusal_leaves _ _ (number e) (file_words plan) l
    (refused_plan plan (18 when ltb (length l) (file_count plan) ∷ []) (file_parts plan) (number e) (sym h)) (ap said is)

-- .. or answered for it
module _ (plan l : List ℕ) (p : PlanHead) (h : said_checked (Ok p) ≡ plan_check_reply plan) where
  abbrev known : PlanFileParts
  known = record { m = p.m; q = p.q; expected = p.expected }

  sound_parts : known ≡ file_parts plan
  sound_parts = (sound_plan plan [] (file_parts plan) known (sym h)).1

  sound_count : p.q ≡ file_count plan
  sound_count = ap (λ (k : PlanFileParts). k.q) sound_parts

  read_reply : plan_file_reply plan (length l) ≡ replied (first_of (18 when ltb (length l) (file_count plan) ∷ [])) (file_parts plan)
  unfolding plan_file_reply plan_read_tests
  read_reply = (sound_plan plan (18 when ltb (length l) (file_count plan) ∷ []) (file_parts plan) known (sym h)).2

  pub ends_short : length l < p.q → Ends plan l (Err ShortWordList) l
  ends_short short =
      let less : length l < file_count plan = omega (arith, sound_count) in
      refusal_leaves _ _ 18 (file_words plan) l (rw (lt-ltb (length l) (file_count plan) less) at read_reply) refl

  -- a sound plan has its words, and there is room for them
  pub sound_words : p.q ≤ length l → (again_at (file_count plan) ≤ length plan) × (file_count plan ≤ length l)
  sound_words room = (taken_long plan (sound_plan plan [] (file_parts plan) known (sym h)).0, omega (arith, sound_count))

  pub ends_read : (l' : List ℕ) → p.q ≤ length l → l' ≡ front (file_words plan) l → Ends plan l (Ok p) l'
  ends_read l' room w =
      let enough : file_count plan ≤ length l = omega (arith, sound_count) in
      answer_leaves _ _ _ (file_words plan) l l' (rw (le-ltb (length l) (file_count plan) enough) at read_reply) (ap answer sound_parts) w

-- ---- the words copied to the lent list

pub copy_turn : (plan l ws : List ℕ) (q i w : ℕ) → ws ≡ front (take i (file_words plan)) l → q ≡ file_count plan
    → q ≤ length l → i < q → w ≡ word_at plan (4 + 8 * i)
    → set ws i w ≡ front (take (i + 1) (file_words plan)) l
copy_turn plan l ws q i w h c room a e =
    let inside : i < file_count plan = omega arith in
    let below : i < length (file_words plan) = omega (arith, plan_words_length plan) in
    let there : i < length l = omega arith in
    ap₂ (λ (x : List ℕ) (v : ℕ). set x i v) h (e ∙ sym (word_at_place plan 4 (file_count plan) i inside))
    ∙ front_next i (file_words plan) l below there ∙ ap (λ (n : ℕ). front (take n (file_words plan)) l) (sym (add-one i))

pub copy_end : (plan l ws : List ℕ) (q i : ℕ) → ws ≡ front (take i (file_words plan)) l → q ≡ file_count plan → i ≤ q → q ≤ i
    → ws ≡ front (file_words plan) l
copy_end plan l ws q i h c a b =
    let all : i ≡ length (file_words plan) = omega (arith, plan_words_length plan) in
    h ∙ ap (λ (n : ℕ). front (take n (file_words plan)) l) all ∙ front_whole (file_words plan) l
