-- Each way out of the call that gives the words, and of planning, and what they answer and leave in the two lent lists; what a caller
-- knows of planning's answer: its parts are the set's (planned_parts), and the words stand at the front of the word list (words_front).
-- Assumes nothing.
use mathlib.Core.Path.{◌≡◌, refl, sym, ap, ap₂, ◌∙◌}
use mathlib.Core.Bool.{Bool, true, false}
use mathlib.Core.List.{List, [], ◌∷◌}
use Prim.Native.Nat.{ℕ, zero, suc, ◌≤◌}
use native.Mathlib.Omega.{arith}
use lib.Dec.{ltb}
use lib.ListN.{length, take}
use Rattle.word.specs.Reply.{Reply, answer, refusal, replied, first_of, lent}
use Rattle.word.specs.Zeros.{zeros}
use Rattle.word.proofs.ReplyLaws.{refused_reply, refusal_leaves, refused_leaves, answered_part}
use Rattle.word.proofs.TestLaws.{replied_answer, replied_alike}
use Rattle.set_file.specs.Reading.{set_tests, set_reply, TakenFrom}
use Rattle.set_file.specs.declared.Taken.{Taken}
use Rattle.set_file.proofs.Laws.{accepted}
use Rattle.kept_words.specs.Working.{words_of, working_places, working_test, working_after, kept_tests, kept_reply, said as kept_said}
use Rattle.kept_words.proofs.KeptLaws.{KeptEnd}
use Rattle.expectation.specs.Expecting.{expected_for}
use Rattle.planner.specs.Planning.{earlier_tests, working_left, expected_of, plan_tests, WordParts, word_parts_of, words_reply, said_made, PlanParts, parts_of, plan_reply, said}
use Rattle.planner.specs.declared.Made.{Made}
use Rattle.planner.specs.declared.Planned.{Planned}
use Rattle.std.specs.Prelude.{Result, Ok, Err}
use Rattle.refusals.specs.declared.Refusal.{Refusal}
use Rattle.refusals.specs.Refusals.{number}
use Rattle.refusals.proofs.RefusalLaws.{not_zero}
use Rattle.set_file.proofs.ReadLaws.{refused_set}
use Rattle.planner.proofs.NumberLaws.{later, set_first, plan_sooner, plan_later, earlier_past_set, words_few, planned_none}

-- what the call that gives the words answers, a, and leaves in the working list cs, cs', and in the word list ws, ws'
abbrev pub WordsEnd : List ℕ → List ℕ → List ℕ → Reply WordParts → List ℕ → List ℕ → Type 0
WordsEnd set cs ws a cs' ws' =
    (a ≡ words_reply set (length cs) (length ws))
    × ((cs' ≡ working_left set cs) × (ws' ≡ lent (words_reply set (length cs) (length ws)) (words_of set) ws))

-- .. and planning, p
abbrev pub Ends : List ℕ → List ℕ → List ℕ → Result Planned Refusal → List ℕ → List ℕ → Type 0
Ends set cs ws p cs' ws' =
    (said p ≡ plan_reply set (length cs) (length ws))
    × ((cs' ≡ working_left set cs) × (ws' ≡ lent (plan_reply set (length cs) (length ws)) (words_of set) ws))

words_refused : (set cs ws cs' : List ℕ) (k : ℕ) → words_reply set (length cs) (length ws) ≡ refusal k → cs' ≡ working_left set cs
    → WordsEnd set cs ws (refusal k) cs' ws
words_refused set cs ws cs' k h e = let left = refusal_leaves _ _ k (words_of set) ws h refl in (left.0, (e, left.1))

-- ---- the words: the set is refused, or 14

pub words_early : (set cs ws : List ℕ) (k : ℕ) → k ≡ first_of (earlier_tests set (length cs)) → (k ≡ 0 → ⊥) → WordsEnd set cs ws (refusal k) cs ws
unfolding words_reply
words_early set cs ws k e some =
    let number : k ≡ first_of (plan_tests set (length cs) (length ws)) = e ∙ sym (plan_sooner set (length cs) (length ws) (λ z. some (e ∙ z))) in
    words_refused set cs ws cs k (sym (refused_reply _ k (word_parts_of set) number some))
    (refused_leaves (first_of (earlier_tests set (length cs))) k (working_places set) (zeros (working_places set)) cs e some).1

-- .. of which the first is that the set reader refuses it
set_early : (set cs : List ℕ) (e : Refusal) → refusal (number e) ≡ set_reply set → number e ≡ first_of (earlier_tests set (length cs))
set_early set cs e h = set_first set (length cs) (number e) (refused_set set (number e) h) (not_zero e)

pub words_unread : (set cs ws : List ℕ) (r : Result Made Refusal) (e : Refusal) → r ≡ Err e → refusal (number e) ≡ set_reply set
    → WordsEnd set cs ws (said_made r) cs ws
words_unread set cs ws r e is h =
    let early = words_early set cs ws (number e) (set_early set cs e h) (not_zero e) in (ap said_made is ∙ early.0, early.1)

-- ---- the words: past the set's numbers, of the taken set k

lent_alike : {A : Type 0} {B : Type 0} (n : ℕ) (a : A) (b : B) (vs l : List ℕ) → lent (replied n a) vs l ≡ lent (replied n b) vs l
lent_alike zero a b vs l = refl
lent_alike (suc n) a b vs l = refl

module _ (set : List ℕ) (k : Taken) (taken : TakenFrom set k) where
  -- the call on the taken set meets the numbers that are left
  same_first : (p l : ℕ) → first_of (plan_tests set p l) ≡ first_of (kept_tests set p l)
  unfolding kept_tests
  same_first p l = go (ltb p (working_places set)) refl
    where
      past : first_of (earlier_tests set p) ≡ first_of (working_test set p ∷ [])
      past = earlier_past_set set p taken.none

      go : (b : Bool) → ltb p (working_places set) ≡ b → first_of (plan_tests set p l) ≡ first_of (kept_tests set p l)
      go true h =
          let one : first_of (working_test set p ∷ []) ≡ 14 = rw h in
          let short : first_of (earlier_tests set p) ≡ 14 = past ∙ one in
          let there : first_of (kept_tests set p l) ≡ 14 = rw h in
          plan_sooner set p l (λ z. omega (arith, short, z)) ∙ short ∙ sym there
      go false h =
          let no_test : first_of (working_test set p ∷ []) ≡ 0 = rw h in
          let none : first_of (earlier_tests set p) ≡ 0 = past ∙ no_test in
          let there : first_of (kept_tests set p l) ≡ first_of (later set l) = rw h in
          plan_later set p l none ∙ sym there

  kept_there : (p l : ℕ) → kept_reply set p l ≡ replied (first_of (plan_tests set p l)) (length (words_of set))
  unfolding kept_reply
  kept_there p l = ap (λ (n : ℕ). replied n (length (words_of set))) (sym (same_first p l))

  -- .. and answers and leaves what the call does
  pub past_refused : (p l n : ℕ) → kept_reply set p l ≡ refusal n → refusal n ≡ words_reply set p l
  unfolding words_reply
  past_refused p l n h =
      sym (replied_alike (first_of (plan_tests set p l)) (length (words_of set)) (word_parts_of set) n (sym (kept_there p l) ∙ h))

  pub past_answered : (p l q : ℕ) → kept_reply set p l ≡ answer q → answer (record { m = k.register.m; q = q }) ≡ words_reply set p l
  unfolding words_reply
  past_answered p l q h =
      let both = replied_answer (first_of (plan_tests set p l)) (length (words_of set)) q (sym (kept_there p l) ∙ h) in
      ap₂ (λ (x y : ℕ). answer (record { m = x; q = y })) taken.width both.1 ∙ sym (ap (λ (x : ℕ). replied x (word_parts_of set)) both.0)

  pub past_working : (cs : List ℕ) → working_after (working_test set (length cs) ∷ []) set cs ≡ working_left set cs
  past_working cs =
      ap (λ (n : ℕ). lent (replied n (working_places set)) (zeros (working_places set)) cs) (sym (earlier_past_set set (length cs) taken.none))

  pub past_words : (p : ℕ) (ws : List ℕ) → lent (kept_reply set p (length ws)) (words_of set) ws ≡ lent (words_reply set p (length ws)) (words_of set) ws
  unfolding words_reply
  past_words p ws =
      ap (λ (a : Reply ℕ). lent a (words_of set) ws) (kept_there p (length ws))
      ∙ lent_alike (first_of (plan_tests set p (length ws))) (length (words_of set)) (word_parts_of set) (words_of set) ws

  module _ (cs ws cs' ws' : List ℕ) (kept : Result ℕ Refusal) (end : KeptEnd set cs ws kept cs' ws') where
    left : (cs' ≡ working_left set cs) × (ws' ≡ lent (words_reply set (length cs) (length ws)) (words_of set) ws)
    left = (end.1.0 ∙ past_working cs, end.1.1 ∙ past_words (length cs) ws)

    pub words_unkept : (r : Result Made Refusal) (e : Refusal) → r ≡ Err e → kept ≡ Err e → WordsEnd set cs ws (said_made r) cs' ws'
    words_unkept r e is ek =
        (ap said_made is ∙ past_refused (length cs) (length ws) (number e) (sym end.0 ∙ ap kept_said ek), left)

    pub words_kept : (q : ℕ) → kept ≡ Ok q → WordsEnd set cs ws (answer (record { m = k.register.m; q = q })) cs' ws'
    words_kept q ek = (past_answered (length cs) (length ws) q (sym end.0 ∙ ap kept_said ek), left)

-- for the check, at each way out behind the set
pub ruleset past_set = (past_refused, past_answered, past_working, past_words)

-- ---- planning, by what the call that gives the words answers and leaves

parts : {m w q k y e : ℕ} → m ≡ w → q ≡ k → y ≡ e → ◌≡◌ {A = Reply PlanParts} (answer (record { m = m; q = q; expected = y })) (answer (record { m = w; q = k; expected = e }))
parts {w = w} {q = q} {k = k} {y = y} a b c =
    ap (λ (x : ℕ). answer (record { m = x; q = q; expected = y })) a
    ∙ ap (λ (x : ℕ). answer (record { m = w; q = x; expected = y })) b
    ∙ ap (λ (x : ℕ). answer (record { m = w; q = k; expected = x })) c

module _ (set cs ws cs' ws' : List ℕ) (a : Reply WordParts) (end : WordsEnd set cs ws a cs' ws') where
  same_list_lem : ws' ≡ lent (plan_reply set (length cs) (length ws)) (words_of set) ws
  unfolding words_reply plan_reply
  same_list_lem = end.1.1 ∙ lent_alike (first_of (plan_tests set (length cs) (length ws))) (word_parts_of set) (parts_of set) (words_of set) ws

  -- there are no words
  pub ends_refused : (r : Result Planned Refusal) (e : Refusal) → r ≡ Err e → a ≡ refusal (number e) → Ends set cs ws r cs' ws'
  unfolding words_reply plan_reply
  ends_refused r e is ea = (
    ap said is
        ∙ sym (replied_alike (first_of (plan_tests set (length cs) (length ws))) (word_parts_of set) (parts_of set) (number e) (sym end.0 ∙ ea)),
    (end.1.0, same_list_lem),
  )

  -- there are: they stand at the front of the word list
  module _ (m q : ℕ) (e : a ≡ answer (record { m = m; q = q })) where
    worded : words_reply set (length cs) (length ws) ≡ answer (record { m = m; q = q })
    worded = sym end.0 ∙ e

    worded_both : (first_of (plan_tests set (length cs) (length ws)) ≡ 0) × (record { m = m; q = q } ≡ word_parts_of set)
    unfolding words_reply
    worded_both = replied_answer (first_of (plan_tests set (length cs) (length ws))) (word_parts_of set) (record { m = m; q = q }) worded

    -- the set meets none of its numbers
    pub worded_set : first_of (set_tests set) ≡ 0
    worded_set = planned_none set (length cs) (length ws) worded_both.0

    pub worded_words : (q ≤ length ws') × (take q ws' ≡ words_of set)
    worded_words =
        answered_part (words_reply set (length cs) (length ws)) _ (words_of set) ws ws' q worded end.1.1
        (ap (λ (x : WordParts). x.q) worded_both.1)

    pub worded_few : length (take q ws') ≤ 64
    worded_few =
        omega (arith, ap length worded_words.1, words_few set (accepted set worded_set))

    pub ends_planned : (y : ℕ) → y ≡ expected_for set (take q ws') → Ends set cs ws (Ok (record { m = m; q = q; expected = y })) cs' ws'
    unfolding plan_reply expected_of
    ends_planned y ey = (
      parts (ap (λ (x : WordParts). x.m) worded_both.1) (ap (λ (x : WordParts). x.q) worded_both.1) (ey ∙ ap (expected_for set) worded_words.1)
          ∙ sym (ap (λ (x : ℕ). replied x (parts_of set)) worded_both.0),
      (end.1.0, same_list_lem),
    )

-- the set reader refuses the set
pub ends_unread : (set cs ws : List ℕ) (r : Result Planned Refusal) (e : Refusal) → r ≡ Err e → refusal (number e) ≡ set_reply set → Ends set cs ws r cs ws
ends_unread set cs ws r e is h =
    ends_refused set cs ws cs ws (refusal (number e)) (words_early set cs ws (number e) (set_early set cs e h) (not_zero e)) r e is refl

-- ---- what a caller knows of an answer

pub planned_parts : (set : List ℕ) (k l : ℕ) (p : PlanParts) → plan_reply set k l ≡ answer p → p ≡ parts_of set
unfolding plan_reply
planned_parts set k l p h = (replied_answer (first_of (plan_tests set k l)) (parts_of set) p h).1

pub words_front : (set ws ws' : List ℕ) (k : ℕ) (p : PlanParts) → plan_reply set k (length ws) ≡ answer p
    → ws' ≡ lent (plan_reply set k (length ws)) (words_of set) ws → (p.q ≤ length ws') × (take p.q ws' ≡ words_of set)
words_front set ws ws' k p h e =
    answered_part (plan_reply set k (length ws)) p (words_of set) ws ws' p.q h e
    (ap (λ (x : PlanParts). x.q) (planned_parts set k (length ws) p h))
